pub mod InCell
pub mod Numbers
pub mod Steps
pub mod Scalings
pub mod Cells
pub mod Determined
