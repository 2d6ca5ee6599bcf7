pub mod Pieces
pub mod Lines
pub mod Columns
pub mod Named
pub mod Claims
