pub mod Asleep
pub mod Good
pub mod Reads
pub mod Rests
pub mod Steps
pub mod Waits
pub mod Wanted
