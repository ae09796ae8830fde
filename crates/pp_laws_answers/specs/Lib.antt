pub mod Answers
pub mod Finished
