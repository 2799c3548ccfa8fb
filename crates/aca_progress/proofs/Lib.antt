pub mod Chosen
pub mod Sizes
pub mod Steps
pub mod Ways
pub mod Determined
