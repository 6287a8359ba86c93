pub mod Watch
pub mod Promises
