pub mod Repeated
pub mod Answers
pub mod Facts
pub mod Before
pub mod Fresh
pub mod Smallest
pub mod Determined
pub mod Unseen
