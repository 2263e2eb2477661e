pub mod Text
pub mod Append
pub mod Line
pub mod Inner
