pub mod IdText
pub mod Layout
pub mod NameRule
pub mod Reading
pub mod Indices
pub mod IdTextLaws
pub mod NameTexts
pub mod RefTexts
