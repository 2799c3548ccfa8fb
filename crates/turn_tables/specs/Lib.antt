pub mod Turned
pub mod Working
