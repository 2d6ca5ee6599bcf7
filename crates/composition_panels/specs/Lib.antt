pub mod Windows
pub mod Metrics
pub mod Panels
pub mod Claims
