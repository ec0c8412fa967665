-- What several proofs cite.
pub mod Listing
