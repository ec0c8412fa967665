-- Laws that several proofs cite.
pub mod Handed
mod Bytes
mod Running
mod Requests
mod Deciding
