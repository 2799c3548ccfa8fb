pub mod Argmax
pub mod Cutoff
