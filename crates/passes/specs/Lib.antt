pub mod Passes
pub mod Working
