pub mod Board
pub mod Free
