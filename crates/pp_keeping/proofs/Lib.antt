pub mod CallLemmas
pub mod CopyLemmas
pub mod RepeatLemmas
