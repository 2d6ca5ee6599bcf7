pub mod DamageLaws
pub mod SettleLaws
