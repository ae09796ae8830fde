pub mod Holds
pub mod Pipe
