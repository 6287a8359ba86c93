pub mod Tellings
pub mod OneCall
pub mod Buffers
pub mod Cuttings
pub mod Advances
pub mod Loops
pub mod Turns
