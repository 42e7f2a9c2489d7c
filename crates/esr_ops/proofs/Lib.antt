pub mod Searches
pub mod Results
pub mod Lists
pub mod Alike
pub mod OpenOps
pub mod OpenRestores
pub mod Between
pub mod NamedUuids
