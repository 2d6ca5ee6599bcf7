pub mod Registry
pub mod Claims
