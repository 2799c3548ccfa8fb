pub mod SignedBytes
pub mod Lines
pub mod Answers
