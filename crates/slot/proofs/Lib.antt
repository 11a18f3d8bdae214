pub mod Emptying
pub mod Laws
pub mod Reading
pub mod Equal
pub mod Document01
pub mod Refusing
