pub mod EventLaws
pub mod TraceLaws
pub mod WalkLaws
pub mod ClaimLaws
pub mod CallClaimLaws
pub mod DecisionLaws
