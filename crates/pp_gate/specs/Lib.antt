pub mod Files
pub mod Gate
pub mod Runs
pub mod Seal
