pub mod FirstEnds
pub mod Firsts
pub mod Restoring
pub mod Aborting
pub mod Cleaning
