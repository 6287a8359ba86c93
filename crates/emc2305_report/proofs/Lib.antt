pub mod Fits
pub mod Sampled
pub mod Promises
