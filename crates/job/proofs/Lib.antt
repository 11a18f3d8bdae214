pub mod Lists
pub mod Fairness
pub mod Places
pub mod Advancing
pub mod Equal
