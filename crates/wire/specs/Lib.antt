pub mod Flags
pub mod Bits
pub mod Widths
pub mod Parts
pub mod Store
pub mod Count
