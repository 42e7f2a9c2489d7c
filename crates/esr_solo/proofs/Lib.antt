pub mod Showing
pub mod Listing
pub mod Committing
pub mod Testing
pub mod Removing
pub mod Stepping
pub mod Calls
pub mod Taking
