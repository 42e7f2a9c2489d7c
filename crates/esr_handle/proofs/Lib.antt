pub mod Owned
pub mod Turns
mod Growing
mod Conditions
mod Showing
mod Hands
mod Seats
