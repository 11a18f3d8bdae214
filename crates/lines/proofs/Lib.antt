pub mod Laws
pub mod Length
pub mod Value
pub mod Equal
