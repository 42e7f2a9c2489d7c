pub mod Going
pub mod Halting
pub mod Coming
pub mod Readers
pub mod Ended
pub mod Resting
pub mod Rounds
pub mod Taking
pub mod Works
pub mod Electing
mod Closing
mod Joining
mod Places
mod Weights
mod Working
