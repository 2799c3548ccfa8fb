pub mod Orders
pub mod Sizes
pub mod Held
pub mod Listed
pub mod Determined
pub mod Indexes
