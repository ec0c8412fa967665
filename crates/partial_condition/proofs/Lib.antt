-- Laws that several proofs cite.
pub mod Laying
pub mod Holding
pub mod Reducing
pub mod Arms
