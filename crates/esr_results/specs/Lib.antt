pub mod Results
pub mod Pruned
