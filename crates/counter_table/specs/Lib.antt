pub mod Routes
pub mod Examples
pub mod Table
