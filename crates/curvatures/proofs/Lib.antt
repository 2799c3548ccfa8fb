pub mod AxisPairs
pub mod Products
pub mod Calls
pub mod Determined
