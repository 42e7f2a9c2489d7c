pub mod Digits
pub mod Fed
pub mod Prints
pub mod DigitLaws
