pub mod Transfers
pub mod Step
pub mod Device
pub mod Traffic
pub mod Promises
