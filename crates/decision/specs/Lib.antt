pub mod Room
pub mod Nodes
pub mod Meaning
pub mod Answers
pub mod Uniting
