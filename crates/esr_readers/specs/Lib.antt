pub mod Order
pub mod Readers
pub mod RestoredShards
