pub mod Recurrence
pub mod Working
