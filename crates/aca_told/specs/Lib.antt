pub mod Told
pub mod Working
