pub mod Around
pub mod Closings
pub mod Places
pub mod Refusals
