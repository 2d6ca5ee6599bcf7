pub mod Left
pub mod Changes
pub mod Written
pub mod Refusals
