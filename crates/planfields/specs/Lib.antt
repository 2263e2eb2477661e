pub mod Layout
pub mod Records
pub mod Answers
