pub mod Asks
pub mod Awaits
pub mod Bodies
pub mod Endings
pub mod Finds
pub mod Heads
pub mod LineEnds
pub mod Loads
