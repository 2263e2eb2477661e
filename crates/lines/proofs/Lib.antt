pub mod Injective
pub mod Lines
