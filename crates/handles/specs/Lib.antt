pub mod Handles
pub mod Slots
pub mod WellFormed
pub mod Claims
