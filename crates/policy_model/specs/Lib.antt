pub mod Heads
pub mod HeadLaws
pub mod Lists
pub mod Answers
pub mod Span
pub mod Plain
pub mod PlainLaws
pub mod Short
