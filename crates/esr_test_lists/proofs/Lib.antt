pub mod Following
pub mod Boards
pub mod Growing
