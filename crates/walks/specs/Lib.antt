pub mod Device
pub mod Run
pub mod Turn
pub mod Sequence
pub mod Promises
