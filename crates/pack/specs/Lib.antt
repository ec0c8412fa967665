pub mod Flat
pub mod Groups
pub mod Places
pub mod Room
pub mod FlatLaws
pub mod GroupLaws
pub mod TreeLaws
pub mod Packing
