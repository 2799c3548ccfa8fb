pub mod Bends
pub mod Working
