pub mod Places
pub mod Histories
pub mod Tickets
pub mod Views
pub mod Rule
pub mod Kinds
pub mod Passes
