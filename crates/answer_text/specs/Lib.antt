pub mod Digests
pub mod Decimal
pub mod Put
pub mod Claims
