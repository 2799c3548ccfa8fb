pub mod Fields
pub mod Working
