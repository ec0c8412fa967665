-- Laws about the definitions, each by itself.
pub mod NamingLaws
pub mod SetLaws
pub mod Readings
pub mod Completion
pub mod Runs
pub mod Witness
