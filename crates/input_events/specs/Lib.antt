pub mod RouterErrors
pub mod Checks
pub mod Presses
pub mod ArbitrationEvents
pub mod Claims
