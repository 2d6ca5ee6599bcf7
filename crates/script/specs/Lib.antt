pub mod Texts
pub mod Words
pub mod Numbers
pub mod Verbs
pub mod Lines
pub mod Faults
pub mod Ranges
pub mod Examples
