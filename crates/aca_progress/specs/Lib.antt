pub mod Steps
pub mod Crosses
pub mod Working
