pub mod Import
pub mod Grounds
pub mod Export
pub mod Longest
pub mod Answers
pub mod Inner
