pub mod Stopping
pub mod Walks
pub mod Ends
pub mod Rooms
pub mod Sequences
pub mod Loops
