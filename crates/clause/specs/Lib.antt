pub mod Room
pub mod Clauses
pub mod Answers
