pub mod Requests
pub mod IgnoredLaws
