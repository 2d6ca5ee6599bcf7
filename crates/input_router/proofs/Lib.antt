pub mod OrderLaws
pub mod SoundLaws
pub mod ClaimLaws
