pub mod Ids
pub mod Book
pub mod Owed
pub mod Notes
pub mod Examples
pub mod Claims
