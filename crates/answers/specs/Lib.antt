pub mod Answer
pub mod Short
pub mod Tests
pub mod Plain
