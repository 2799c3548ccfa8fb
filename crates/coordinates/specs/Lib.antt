pub mod Coordinates
pub mod Scaling
pub mod Cells
