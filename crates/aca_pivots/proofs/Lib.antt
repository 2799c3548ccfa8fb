pub mod Largest
pub mod Facts
pub mod Bits
pub mod Unused
pub mod Words
pub mod Determined
