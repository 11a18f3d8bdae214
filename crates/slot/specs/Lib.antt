pub mod Answer
pub mod Read
pub mod Empty
pub mod Part
pub mod Document01
