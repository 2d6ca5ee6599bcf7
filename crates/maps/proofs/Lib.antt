pub mod MapTableLaws
pub mod ClaimLaws
