pub mod Plain
pub mod Fields
pub mod Turns
pub mod Putting
pub mod Whole
