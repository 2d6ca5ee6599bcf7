pub mod TakeLaws
pub mod EachLaws
pub mod WriteLaws
pub mod DigestSinkLaws
