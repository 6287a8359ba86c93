pub mod Asked
pub mod Face
pub mod Promises
