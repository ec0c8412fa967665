pub mod Joining
pub mod JoiningLaws
