pub mod State
pub mod Map
pub mod Fans
pub mod Watching
pub mod Registers
pub mod Ticks
pub mod Promises
