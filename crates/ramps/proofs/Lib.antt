pub mod Moves
pub mod Ticks
