pub mod Contradicting
