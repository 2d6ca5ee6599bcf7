pub mod Buffer
pub mod HitTest
pub mod Claims
