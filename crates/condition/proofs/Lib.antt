-- Laws that several proofs cite.
pub mod Evaluating
pub mod Walking
