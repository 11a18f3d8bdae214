pub mod Telling
pub mod Staging
pub mod NoJob
pub mod Equal
pub mod Order
