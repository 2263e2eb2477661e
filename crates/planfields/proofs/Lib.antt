pub mod HeadLaws
pub mod Injective
