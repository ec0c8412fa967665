pub mod Judging
pub mod Sheets
pub mod Records
pub mod Levels
