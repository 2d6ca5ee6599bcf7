pub mod BufferLaws
pub mod HitLaws
pub mod TableLaws
pub mod TestLaws
pub mod ClaimLaws
