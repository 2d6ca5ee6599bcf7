pub mod Answers
pub mod Losses
