pub mod Errors
pub mod Surfaces
pub mod Layers
pub mod Views
pub mod Shortcuts
pub mod Traces
pub mod Claims
