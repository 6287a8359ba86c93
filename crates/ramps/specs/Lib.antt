pub mod Ramp
pub mod Promises
