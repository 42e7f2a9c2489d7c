pub mod Address
pub mod Begun
pub mod Files
pub mod MemSources
pub mod Plan
pub mod Sure
pub mod Told
