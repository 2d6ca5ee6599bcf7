pub mod Hits
pub mod Registrations
pub mod Messages
pub mod Claims
