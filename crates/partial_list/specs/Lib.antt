pub mod Keeping
pub mod KeepingLaws
pub mod Within
pub mod WithinLaws
pub mod Answers
pub mod Holding
pub mod HoldingLaws
pub mod InOrder
