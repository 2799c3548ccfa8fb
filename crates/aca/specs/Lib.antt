pub mod Reports
pub mod Runs
pub mod Before
pub mod Pivots
pub mod Facts
pub mod Unseen
pub mod Working
