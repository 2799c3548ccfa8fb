pub mod Operators
pub mod Working
