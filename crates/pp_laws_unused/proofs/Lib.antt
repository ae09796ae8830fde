pub mod Seen
pub mod Opened
pub mod Turning
pub mod Laws
