pub mod Factors
pub mod HighBytes
pub mod Promises
