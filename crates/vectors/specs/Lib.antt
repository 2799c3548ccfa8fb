pub mod Order
pub mod Vectors
pub mod LookUps
pub mod Working
