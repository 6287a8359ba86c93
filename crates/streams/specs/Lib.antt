pub mod Served
pub mod Said
pub mod Arguments
