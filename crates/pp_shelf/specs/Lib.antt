pub mod Given
pub mod Opening
pub mod Steady
pub mod Texts
