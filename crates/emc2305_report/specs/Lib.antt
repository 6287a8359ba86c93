pub mod Speeds
pub mod Walk
pub mod Promises
