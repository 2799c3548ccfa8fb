pub mod Coefficients
pub mod Before
pub mod Pair
pub mod Working
