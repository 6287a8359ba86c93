pub mod Tellers
pub mod Lines
pub mod Turns
