pub mod Answers
pub mod Read
pub mod Lengths
pub mod Bounds
pub mod Claims
