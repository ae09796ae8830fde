pub mod Failures
pub mod Leading
pub mod Links
pub mod Quiet
pub mod Waits
