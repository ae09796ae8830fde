pub mod Closing
pub mod Faults
pub mod Image
pub mod Looks
pub mod Opening
pub mod Shown
