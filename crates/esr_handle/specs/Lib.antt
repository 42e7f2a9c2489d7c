pub mod Owned
pub mod Turned
