-- Definitions that the contracts of inner functions name. No promise rests on them.
pub mod Parts
pub mod Growing
