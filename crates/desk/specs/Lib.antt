pub mod Timetable
pub mod Pairs
pub mod Desk
pub mod Answers
pub mod Inner
