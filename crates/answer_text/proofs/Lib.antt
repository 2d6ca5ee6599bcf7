pub mod DigestLaws
pub mod DecimalLaws
pub mod PutLaws
pub mod SignLaws
pub mod ClaimLaws
