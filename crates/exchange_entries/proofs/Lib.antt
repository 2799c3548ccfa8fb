pub mod Scans
pub mod Signs
pub mod Checks
pub mod Determined
