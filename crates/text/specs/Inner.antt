-- Definitions for the contracts of internal functions; no promise rests on them.
pub mod Growth
