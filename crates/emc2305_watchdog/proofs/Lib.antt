pub mod QuietTicks
pub mod Feeding
