pub mod Recurrence
pub mod Whole
pub mod Floats
