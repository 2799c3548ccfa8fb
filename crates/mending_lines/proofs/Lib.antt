pub mod Bytes
pub mod Lines
pub mod Stored
pub mod Determined
