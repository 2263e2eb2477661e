pub mod Logic
pub mod SumLaws
pub mod Choice
pub mod Below
pub mod Padding
pub mod Stores
pub mod FillLaws
pub mod BitLaws
