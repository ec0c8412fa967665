-- What the proofs of several functions use.
pub mod Nodes
pub mod Walking
pub mod Records
pub mod AnswerLaws
