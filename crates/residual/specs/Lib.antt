pub mod Weight
pub mod WeightLaws
pub mod Answers
