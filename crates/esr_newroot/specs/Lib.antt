pub mod NewRoot
pub mod Named
pub mod ByteTests
pub mod RefLists
