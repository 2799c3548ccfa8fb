pub mod Rows
pub mod Determined
