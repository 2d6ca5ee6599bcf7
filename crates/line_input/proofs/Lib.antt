pub mod InputLaws
pub mod RoundTrip
