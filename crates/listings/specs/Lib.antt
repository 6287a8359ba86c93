pub mod Listing
pub mod Turn
pub mod Promises
