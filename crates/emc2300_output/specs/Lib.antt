pub mod Tables
pub mod State
pub mod Ramp
pub mod Settling
pub mod Tick
pub mod Examples
pub mod Promises
