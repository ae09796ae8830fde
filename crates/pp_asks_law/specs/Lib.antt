pub mod Rests
pub mod Asks
pub mod Dials
pub mod Stays
pub mod Begins
