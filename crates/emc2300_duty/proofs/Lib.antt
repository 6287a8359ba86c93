pub mod ZoneRules
pub mod Goals
pub mod Examples
pub mod Linked
