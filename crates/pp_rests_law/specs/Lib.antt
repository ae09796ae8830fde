pub mod Closing
pub mod Heads
pub mod Late
pub mod Moment
pub mod Rests
