pub mod Occurring
pub mod Determined
