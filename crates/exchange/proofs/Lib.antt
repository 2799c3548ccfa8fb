pub mod Calls
pub mod WriteCalls
pub mod Determined
