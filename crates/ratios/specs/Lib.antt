pub mod Ratios
pub mod Facts
