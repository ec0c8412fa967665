-- What the proofs of several functions use.
pub mod Arms
pub mod Conditions
pub mod Policies
pub mod Nodes
pub mod Sheets
pub mod Records
