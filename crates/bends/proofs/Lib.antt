pub mod Rooms
pub mod Loops
pub mod Determined
