pub mod Laws
pub mod MemDepot
pub mod Meter
pub mod Past
pub mod Plan
pub mod Stages
