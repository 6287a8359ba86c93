pub mod Teller
pub mod Window
pub mod Turn
pub mod Promises
