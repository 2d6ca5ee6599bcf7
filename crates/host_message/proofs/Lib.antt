pub mod RegistrationLaws
pub mod RangeLaws
