pub mod Mending
pub mod Tallies
pub mod Promises
