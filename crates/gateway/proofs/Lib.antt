pub mod Ready
pub mod Laws
pub mod Determined
pub mod RefusedCalls
