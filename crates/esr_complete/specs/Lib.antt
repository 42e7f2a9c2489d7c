pub mod Lines
pub mod ItemSteps
pub mod InTurn
pub mod Answers
pub mod FaultFree
