pub mod Nodes
pub mod NodeLaws
