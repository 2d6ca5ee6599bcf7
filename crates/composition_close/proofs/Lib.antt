pub mod ReportLaws
pub mod ShutdownLaws
pub mod ClaimLaws
