pub mod Reducing
pub mod Holding
