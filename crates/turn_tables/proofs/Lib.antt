pub mod Nodes
pub mod Walks
pub mod Decode
pub mod Determined
