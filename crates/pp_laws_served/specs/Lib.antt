pub mod Served
pub mod Filling
