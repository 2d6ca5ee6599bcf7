pub mod Router
pub mod Damage
pub mod Order
pub mod Presses
pub mod Releases
pub mod ViewReleases
pub mod Claims
