pub mod Sum
pub mod Below
pub mod Fill
