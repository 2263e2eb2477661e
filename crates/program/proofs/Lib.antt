pub mod Telling
pub mod TurnsOutput
pub mod FileExtent
pub mod ChunksOutput
pub mod ProgramOutput
