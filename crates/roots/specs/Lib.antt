pub mod Roots
pub mod Values
pub mod Facts
pub mod Working
