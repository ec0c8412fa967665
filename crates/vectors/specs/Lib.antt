pub mod Words
pub mod WordLaws
pub mod Replies
pub mod Stored
pub mod Tallies
