pub mod Fans
pub mod Shown
pub mod Starts
pub mod Operations
pub mod Answers
pub mod Steps
pub mod Untouched
pub mod AbsentKept
