pub mod FaultLaws
pub mod NumberLaws
pub mod VerbLaws
pub mod WordLaws
pub mod LineLaws
