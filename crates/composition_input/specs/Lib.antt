pub mod Focus
pub mod Captures
pub mod Claims
