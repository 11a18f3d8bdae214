pub mod Answers
pub mod Short
pub mod Tests
pub mod Options
pub mod Crossing
