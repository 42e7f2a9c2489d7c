pub mod Pushing
pub mod Comparing
pub mod Apart
pub mod Shards
pub mod Ordered
pub mod Sets
