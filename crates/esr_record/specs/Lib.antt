pub mod Op
pub mod Record
pub mod Steps
pub mod Reading
pub mod Text
pub mod RoundTrip
pub mod UuidLists
