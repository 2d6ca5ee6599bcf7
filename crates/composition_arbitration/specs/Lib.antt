pub mod Targets
pub mod Layers
pub mod Trace
pub mod Arbitration
pub mod Decisions
pub mod Claims
