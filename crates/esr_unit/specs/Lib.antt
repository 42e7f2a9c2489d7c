pub mod Ending
pub mod Shown
pub mod Fetch
pub mod Put
pub mod Objects
pub mod Fail
pub mod Refusals
