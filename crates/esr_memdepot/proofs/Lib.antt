pub mod Dates
pub mod Held
pub mod Landed
pub mod Marked
pub mod Names
pub mod Passing
pub mod Sized
pub mod Told
