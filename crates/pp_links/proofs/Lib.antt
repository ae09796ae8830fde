pub mod Closing
pub mod FailureLemmas
pub mod Keeping
pub mod Opening
pub mod QuietLemmas
pub mod Waiting
