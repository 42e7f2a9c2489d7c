pub mod Info
pub mod Global
pub mod Index
pub mod RoundTrip
