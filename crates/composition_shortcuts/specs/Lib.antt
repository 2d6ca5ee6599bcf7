pub mod Registrations
pub mod Register
pub mod Greatest
pub mod Scope
pub mod Candidates
pub mod OwnView
pub mod Resolve
pub mod Claims
