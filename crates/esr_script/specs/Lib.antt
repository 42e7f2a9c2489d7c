pub mod Numbers
pub mod Lines
pub mod Items
pub mod Kinds
pub mod Script
pub mod Program
pub mod Jobs
