pub mod Distances
pub mod Working
