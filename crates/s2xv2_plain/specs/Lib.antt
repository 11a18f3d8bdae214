pub mod Core
pub mod Output
pub mod Input
