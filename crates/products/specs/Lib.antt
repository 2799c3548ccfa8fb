pub mod Products
pub mod Working
