pub mod Lists
pub mod Nodes
pub mod Masks
pub mod Unions
pub mod Standing
pub mod Buffers
pub mod Folding
