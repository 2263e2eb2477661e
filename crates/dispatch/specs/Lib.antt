pub mod Dues
pub mod Order
pub mod Step
pub mod Shift
pub mod Answers
pub mod Inner
