pub mod Promises
pub mod Fault
