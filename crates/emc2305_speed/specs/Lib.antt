pub mod Speed
pub mod Promises
