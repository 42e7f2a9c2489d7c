pub mod Runs
pub mod Blobs
pub mod Writing
pub mod Indices
pub mod Swaps
pub mod Stopping
pub mod Ends
pub mod Naming
