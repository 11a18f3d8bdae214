pub mod Stores
pub mod Job
pub mod Step
