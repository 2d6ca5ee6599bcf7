pub mod LineLaws
pub mod FoldLaws
pub mod TextLaws
pub mod TurnLaws
pub mod LoopLaws
