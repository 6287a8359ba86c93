pub mod Bits
pub mod Buffer
pub mod Lists
pub mod Repeat
