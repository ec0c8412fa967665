pub mod Dependence
