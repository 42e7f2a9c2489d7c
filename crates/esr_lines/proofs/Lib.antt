pub mod Texts
pub mod Putting
pub mod Sorting
