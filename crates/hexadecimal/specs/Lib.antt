pub mod Glyph
pub mod Text
pub mod Pen
