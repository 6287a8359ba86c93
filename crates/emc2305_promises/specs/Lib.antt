pub mod Ramp
pub mod Corollaries
pub mod Trace
pub mod Alone
pub mod Held
pub mod Busy
pub mod Examples
