pub mod Zones
pub mod Duty
pub mod Examples
pub mod Promises
