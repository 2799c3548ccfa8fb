pub mod Polynomials
pub mod Second
