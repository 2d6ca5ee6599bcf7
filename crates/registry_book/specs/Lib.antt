pub mod MapTests
pub mod Agreement
pub mod Claims
