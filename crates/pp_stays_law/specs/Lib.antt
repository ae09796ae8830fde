pub mod Dials
pub mod Names
pub mod Turns
pub mod Steps
pub mod Laws
pub mod Afforded
