pub mod Part
pub mod Job
