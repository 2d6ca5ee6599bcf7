pub mod ShownLaws
pub mod TableLaws
