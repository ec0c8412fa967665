pub mod Sets
pub mod SetLaws
