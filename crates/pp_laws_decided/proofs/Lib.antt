pub mod Fits
pub mod Begins
pub mod Choices
pub mod Steps
pub mod Laws
