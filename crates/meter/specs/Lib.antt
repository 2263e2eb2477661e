pub mod Speed
pub mod Log
pub mod Bits
pub mod Answers
pub mod Grounds
pub mod Inner
