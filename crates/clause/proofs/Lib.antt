pub mod Lists
pub mod Nodes
pub mod Writing
pub mod AnswerLaws
