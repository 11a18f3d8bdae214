pub mod Cut
pub mod Flags
pub mod Joined
pub mod Parts
pub mod Stores
pub mod Tables
pub mod Wide
