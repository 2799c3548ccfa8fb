pub mod Accepted
pub mod Limits
pub mod Stretches
pub mod Determined
