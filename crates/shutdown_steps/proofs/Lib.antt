pub mod SlotLaws
pub mod ReadyLaws
pub mod PanelLaws
pub mod ViewLaws
pub mod WindowLaws
pub mod ClaimLaws
