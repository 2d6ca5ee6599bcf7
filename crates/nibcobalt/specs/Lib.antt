pub mod Status
pub mod Fresh
pub mod Calls
pub mod Routes
pub mod Claims
