pub mod Cleaned
pub mod Replies
pub mod Status
pub mod Code
pub mod Ends
pub mod Aborts
