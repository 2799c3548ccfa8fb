pub mod Memories
pub mod Standing
pub mod Working
