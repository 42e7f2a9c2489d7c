pub mod Digests
pub mod Cleanups
pub mod Latest
pub mod Reach
pub mod Exact
pub mod Spent
