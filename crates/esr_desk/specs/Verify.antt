-- What the steps of a verification need, and what shows that one failed.
pub mod Conditions
pub mod Tested
pub mod Shown
