pub mod Parts
pub mod Nodes
pub mod Arms
pub mod InOrder
