-- Laws that several proofs cite.
pub mod Counting
pub mod Holding
pub mod Conditions
pub mod Policies
