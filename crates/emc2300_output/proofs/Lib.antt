pub mod Steps
pub mod Passing
pub mod Settlings
pub mod Promises
