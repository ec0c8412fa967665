pub mod Nodes
pub mod Folds
pub mod Evaluating
pub mod Arms
