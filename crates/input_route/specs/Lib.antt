pub mod Checks
pub mod Route
