pub mod Closing
pub mod Deciding
pub mod Ending
pub mod Hearing
pub mod Saying
