pub mod Putting
pub mod Reducing
