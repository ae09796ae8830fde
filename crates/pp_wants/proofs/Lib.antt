pub mod AwaitedLemmas
pub mod RestLemmas
