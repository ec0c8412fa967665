-- Laws about the definitions, each by itself.
pub mod Guarantee
