-- Laws that several proofs cite.
pub mod Fields
pub mod Faults
mod Setting
