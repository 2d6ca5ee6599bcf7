pub mod Answers
pub mod Step
