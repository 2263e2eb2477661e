pub mod JobRoundTrip
pub mod RowRoundTrip
pub mod KeptPlan
pub mod WriteAfterRead
pub mod ReadAfterWrite
pub mod ReadSound
pub mod NameLookup
pub mod RowOrder
