-- Definitions for the contracts of internal functions; no promise rests on them.
pub mod Classes
pub mod Lists
pub mod Tasks
pub mod Overs
