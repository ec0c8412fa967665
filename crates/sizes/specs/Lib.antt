pub mod Laid
pub mod LaidLaws
