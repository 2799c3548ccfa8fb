pub mod Alike
pub mod Rounding
pub mod Products
pub mod Sums
pub mod Opposites
pub mod Bits
pub mod Bounds
