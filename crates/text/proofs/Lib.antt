pub mod Lengths
pub mod Digits
pub mod Wholes
pub mod Rowed
pub mod Lines
pub mod LineCounts
