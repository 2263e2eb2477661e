pub mod FieldLaws
pub mod SeenLaws
pub mod ItemLaws
pub mod TextBack
pub mod ItemRefusals
pub mod ItemInside
pub mod Determined
