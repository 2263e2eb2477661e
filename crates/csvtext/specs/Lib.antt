pub mod Grammar
pub mod Decimals
pub mod Items
pub mod Answers
pub mod Inner
