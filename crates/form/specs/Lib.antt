pub mod Envelope
pub mod Walk
pub mod Form
pub mod Bytewise
pub mod Document01
