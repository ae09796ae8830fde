pub mod Decide
pub mod Patience
pub mod Sharing
