pub mod Strips
pub mod Determined
