pub mod Axes
pub mod Working
