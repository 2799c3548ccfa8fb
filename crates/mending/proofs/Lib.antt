pub mod Records
pub mod Verdicts
pub mod Files
pub mod Again
pub mod Lines
pub mod Calls
pub mod Tallies
