pub mod Adding
pub mod Ending
pub mod Holding
