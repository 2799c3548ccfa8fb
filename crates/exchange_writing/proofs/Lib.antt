pub mod Lengths
pub mod Digits
pub mod Floats
pub mod Spellings
pub mod Determined
