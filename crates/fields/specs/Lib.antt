pub mod Bytes
pub mod Parsers
pub mod Answers
