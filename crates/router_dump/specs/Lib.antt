pub mod Router
pub mod Claims
