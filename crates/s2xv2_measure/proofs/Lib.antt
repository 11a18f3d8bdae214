pub mod Words
pub mod Meant
pub mod Checked
pub mod Accepted
pub mod Sizes
pub mod Equal
