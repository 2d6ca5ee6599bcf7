-- What the contracts of `geometry` cite, one file for each topic.
pub mod Rect
pub mod Rounding
pub mod Transform
pub mod Surface
pub mod Metrics
pub mod Claims
