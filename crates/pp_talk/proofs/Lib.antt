pub mod LoadingLemmas
pub mod TalkingLemmas
