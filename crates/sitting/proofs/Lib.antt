pub mod Deciding
pub mod Requesting
