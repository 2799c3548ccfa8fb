pub mod Curvatures
pub mod Working
