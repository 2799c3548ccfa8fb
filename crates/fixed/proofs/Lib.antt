pub mod Proved
pub mod Sharp
pub mod Requested
