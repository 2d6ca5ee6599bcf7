pub mod Starts
pub mod Sessions
pub mod Lines
pub mod Replay
pub mod Texts
pub mod Turns
pub mod Claims
