pub mod Written
pub mod WrittenLaws
pub mod Packed
pub mod PackedLaws
