pub mod Largest
pub mod Facts
pub mod Flags
pub mod Working
