pub mod Reads
pub mod Back
