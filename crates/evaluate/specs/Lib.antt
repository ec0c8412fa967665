pub mod Folding
pub mod FoldingLaws
pub mod Evaluating
