pub mod Airs
pub mod Determined
