pub mod Added
pub mod Changed
pub mod Removed
pub mod Ordered
