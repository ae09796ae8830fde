pub mod GotLemmas
pub mod HeadLimits
