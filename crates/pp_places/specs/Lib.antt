pub mod Around
pub mod Placing
