pub mod Lines
pub mod Words
pub mod Meaning
pub mod Reading
pub mod Writing
pub mod Calls
pub mod Promises
pub mod Faults
