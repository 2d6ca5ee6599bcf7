pub mod RegisterLaws
pub mod GreatestLaws
pub mod CandidateLaws
pub mod LivePanelLaws
pub mod BitLaws
pub mod WinnerLaws
pub mod SetLaws
pub mod ClaimLaws
