pub mod Signs
pub mod Sizes
pub mod Bounds
