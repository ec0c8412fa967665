pub mod Sets
pub mod CountLaws
pub mod Nodes
pub mod Answers
pub mod AnswerLaws
pub mod Arms
