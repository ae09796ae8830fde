pub mod ByRow
pub mod Replies
pub mod Shown
