pub mod Absolute
pub mod Key
pub mod Name
pub mod Parsed
