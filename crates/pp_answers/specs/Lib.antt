pub mod Answers
pub mod FinalHeads
pub mod Heads
pub mod OwnHeads
pub mod Rows
pub mod ThroughHeads
