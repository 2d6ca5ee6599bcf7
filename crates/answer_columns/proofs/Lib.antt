pub mod PieceLaws
pub mod LineLaws
pub mod BlankLaws
pub mod ClaimLaws
