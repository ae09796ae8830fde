pub mod Versions
pub mod Wholes
