pub mod Opposites
pub mod Reach
pub mod FloatRight
pub mod FloatCalls
pub mod Rusts
