pub mod Glyphs
pub mod Texts
pub mod Answers
