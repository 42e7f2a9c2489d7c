pub mod Work
pub mod Blobs
pub mod Ticket
pub mod Went
pub mod Refused
pub mod Runs
pub mod Stops
pub mod SwapBlobs
