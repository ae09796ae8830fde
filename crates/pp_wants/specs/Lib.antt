pub mod Awaited
pub mod Rests
