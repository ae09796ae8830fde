pub mod Pins
pub mod Left
pub mod Evicted
