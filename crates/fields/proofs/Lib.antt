pub mod ByteLaws
pub mod ParserLaws
pub mod OpeningLaws
pub mod BytesAt
pub mod RoundTripLaws
pub mod Only
pub mod Injective
pub mod WholeBytes
