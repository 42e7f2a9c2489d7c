pub mod Reading
pub mod Copying
pub mod Causing
