pub mod Gone
pub mod Idle
pub mod Replies
pub mod Waits
