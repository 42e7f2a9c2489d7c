pub mod Sums
pub mod Places
pub mod Histories
pub mod Tickets
pub mod Views
pub mod Keeps
