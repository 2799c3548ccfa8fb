pub mod Tails
pub mod Determined
