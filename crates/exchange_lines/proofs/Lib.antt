pub mod Scanning
pub mod Running
pub mod Parts
pub mod Forms
pub mod Determined
pub mod Files
