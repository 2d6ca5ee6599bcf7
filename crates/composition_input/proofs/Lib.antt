pub mod CaptureSettleLaws
pub mod CaptureListLaws
pub mod ClaimLaws
