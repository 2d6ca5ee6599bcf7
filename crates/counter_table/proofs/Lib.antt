pub mod RouteLaws
pub mod TableLaws
pub mod ExampleLaws
