pub mod Exchanged
pub mod Working
