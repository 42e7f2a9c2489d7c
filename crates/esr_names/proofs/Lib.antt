pub mod Front
pub mod IdTexts
pub mod Distinct
