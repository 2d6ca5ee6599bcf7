pub mod SameStepLaws
