-- What the proofs of several functions use.
pub mod Lists
pub mod Listing
