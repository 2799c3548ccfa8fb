pub mod Fronts
pub mod Terms
pub mod Marked
pub mod OneStep
pub mod Determined
