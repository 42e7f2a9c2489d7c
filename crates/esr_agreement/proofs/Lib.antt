pub mod Served
pub mod Loops
