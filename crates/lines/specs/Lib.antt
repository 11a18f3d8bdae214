pub mod Out
pub mod Sheet
pub mod Number
pub mod Line
pub mod Digest
