pub mod Contradicted
