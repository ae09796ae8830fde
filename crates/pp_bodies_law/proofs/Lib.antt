pub mod Bytes
pub mod Delivered
pub mod Ended
pub mod Joined
pub mod Pipes
