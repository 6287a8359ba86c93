pub mod Figures
pub mod Samples
pub mod Report
pub mod Adding
pub mod Lines
pub mod Promises
