-- What the steps of a restore's ticket need, and what shows that one failed.
pub mod Conditions
pub mod Parts
pub mod First
pub mod Shown
pub mod Targets
