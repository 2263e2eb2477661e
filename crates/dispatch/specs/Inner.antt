-- Definitions for the contracts of internal functions; no promise rests on them.
pub mod Readiness
pub mod Shares
pub mod Turns
pub mod Columns
