pub mod Back
pub mod Absent
pub mod Reserved
