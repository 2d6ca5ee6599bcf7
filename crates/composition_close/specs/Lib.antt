pub mod Reports
pub mod Detach
pub mod Close
pub mod Shutdown
pub mod Claims
