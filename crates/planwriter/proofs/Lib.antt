pub mod Sets
pub mod JobAndRowBytes
pub mod JobRows
pub mod WrittenFile
pub mod Injective
