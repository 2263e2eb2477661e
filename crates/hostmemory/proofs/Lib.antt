pub mod Writes
pub mod Determined
pub mod RoundTrip
pub mod ColumnLaws
