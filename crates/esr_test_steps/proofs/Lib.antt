pub mod Askable
pub mod Starting
pub mod Staying
mod Sharing
