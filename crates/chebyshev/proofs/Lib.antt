pub mod Columns
pub mod Calls
pub mod Seconds
pub mod Determined
