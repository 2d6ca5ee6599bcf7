pub mod LineInput
pub mod Claims
