pub mod Alike
pub mod Promises
