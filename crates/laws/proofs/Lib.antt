pub mod Buffer
pub mod Laid
pub mod Cases
pub mod Tests
pub mod Repeat
pub mod Tables
pub mod Divide
pub mod Lists
