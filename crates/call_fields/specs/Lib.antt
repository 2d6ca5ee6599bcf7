pub mod Narrow
pub mod PanelChoices
pub mod EventChoices
pub mod Groups
pub mod Back
