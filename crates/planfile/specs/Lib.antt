pub mod Reader
pub mod Answers
pub mod Inner
