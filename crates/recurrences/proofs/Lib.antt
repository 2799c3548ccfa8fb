pub mod Integers
pub mod Derivatives
pub mod Floats
