pub mod GivenLemmas
pub mod LifeLemmas
