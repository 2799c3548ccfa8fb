pub mod Calls
pub mod Axes
pub mod Determined
