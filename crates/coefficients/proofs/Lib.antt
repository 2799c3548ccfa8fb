pub mod Stretches
pub mod Result
pub mod Calls
pub mod Pairs
pub mod Determined
