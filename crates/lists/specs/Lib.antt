pub mod Numbers
pub mod Lists
pub mod Below
pub mod Tables
pub mod Orders
pub mod Maps
pub mod MapClaims
