pub mod Same
pub mod Reading
pub mod Replying
pub mod Agreeing
pub mod Tallying
