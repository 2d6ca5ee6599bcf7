pub mod Keys
pub mod MapTables
pub mod Captures
pub mod Sequences
pub mod Bindings
pub mod Claims
