pub mod Shallow
pub mod Loading
pub mod Completing
