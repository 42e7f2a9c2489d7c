-- What shows that a unit of a snapshot or a clone failed.
pub mod Shown
