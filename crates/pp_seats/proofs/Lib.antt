mod AskLemmas
pub mod HeadLemmas
pub mod HeadLens
