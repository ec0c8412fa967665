pub mod Holding
pub mod Counting
