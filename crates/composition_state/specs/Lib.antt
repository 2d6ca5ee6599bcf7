pub mod Registry
pub mod Start
pub mod Damage
pub mod Settles
