pub mod Captures
pub mod Releases
