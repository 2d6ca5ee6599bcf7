pub mod Sent
pub mod Claims
