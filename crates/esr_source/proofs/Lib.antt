pub mod Moved
pub mod Plans
pub mod ToldFiles
