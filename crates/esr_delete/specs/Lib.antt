pub mod Work
pub mod Gathered
pub mod Planned
pub mod Went
pub mod Ticket
pub mod Refused
pub mod Removed
pub mod Listing
