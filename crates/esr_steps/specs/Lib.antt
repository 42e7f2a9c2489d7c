pub mod Hands
pub mod Leave
