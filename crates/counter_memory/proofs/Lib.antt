pub mod ArrayLaws
pub mod RoundLaws
pub mod ClaimLaws
