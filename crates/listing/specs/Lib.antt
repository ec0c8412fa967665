pub mod Texts
pub mod WriterLaws
pub mod ListTextLaws
pub mod RecordTextLaws
pub mod Inputs
pub mod InputLaws
