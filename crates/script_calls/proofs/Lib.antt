pub mod ListLaws
pub mod RowLaws
