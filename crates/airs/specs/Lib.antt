pub mod Airs
