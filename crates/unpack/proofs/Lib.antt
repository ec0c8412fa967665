pub mod Fields
pub mod Groups
pub mod Steps
pub mod Ends
pub mod Restoring
pub mod Records
pub mod Whole
