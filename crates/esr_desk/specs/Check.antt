-- What the steps of a check need, and what shows that one failed.
pub mod Conditions
pub mod Shown
