pub mod Memory
pub mod Answers
