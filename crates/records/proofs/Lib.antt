pub mod LayerLaws
pub mod ViewLaws
pub mod OutcomeLaws
pub mod PlaceLaws
