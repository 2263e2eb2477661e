pub mod Constraints
pub mod Verdict
pub mod Slack
pub mod Answers
pub mod Decided
pub mod AllBoundaries
pub mod Inner
