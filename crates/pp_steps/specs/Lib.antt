pub mod Begins
pub mod Evicting
