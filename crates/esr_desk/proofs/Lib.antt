pub mod Numbers
pub mod Twice
