pub mod Due
pub mod Entering
pub mod OnDisk
pub mod Waits
