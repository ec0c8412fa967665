pub mod Original
pub mod Narrowing
pub mod InOrder
pub mod Agree
pub mod TightLimits
pub mod LevelLimits
pub mod WindowLimits
