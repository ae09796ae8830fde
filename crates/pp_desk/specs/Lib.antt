pub mod Anything
pub mod Calls
pub mod Closings
pub mod Marks
pub mod Opening
pub mod Origins
pub mod Replies
pub mod Shutting
