pub mod Blocks
pub mod Working
