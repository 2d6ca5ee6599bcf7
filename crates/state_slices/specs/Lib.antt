pub mod Layout
pub mod PanelNumbers
pub mod ViewNumbers
pub mod TraceNumbers
pub mod RouterNumbers
pub mod RegistryNumbers
