pub mod AllRecords
pub mod Along
