pub mod Exchanges
pub mod Determined
