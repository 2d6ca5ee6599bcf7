pub mod FieldLaws
pub mod EventLaws
pub mod CallLaws
