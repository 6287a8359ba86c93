pub mod Text
pub mod Whole
pub mod Promises
