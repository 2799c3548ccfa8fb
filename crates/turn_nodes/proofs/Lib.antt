pub mod Indices
pub mod Determined
