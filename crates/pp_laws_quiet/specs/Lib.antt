pub mod Quiet
pub mod Steady
