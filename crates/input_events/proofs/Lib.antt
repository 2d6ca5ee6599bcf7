pub mod ErrorLaws
pub mod TiltLaws
pub mod ClaimLaws
