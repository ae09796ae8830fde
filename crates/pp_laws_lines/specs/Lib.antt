pub mod Lines
pub mod Hosts
