pub mod Seen
pub mod Stored
