mod Blocks
pub mod Turns
pub mod Ranged
pub mod ReadKeeps
pub mod Pointers
pub mod Numbers
pub mod Effects
pub mod SameSteps
pub mod FansKept
pub mod Parts
pub mod LockKept
pub mod Device
pub mod Promises
