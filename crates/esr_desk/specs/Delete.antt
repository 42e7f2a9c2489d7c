-- What the steps of a delete or cleanup need, and what shows that one failed.
pub mod Conditions
pub mod Named
pub mod Cleaned
pub mod Shown
