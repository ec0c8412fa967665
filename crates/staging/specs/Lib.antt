pub mod Bare
pub mod Chain
pub mod Statement
