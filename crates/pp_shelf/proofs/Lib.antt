pub mod GivenLemmas
pub mod GrowthLemmas
pub mod OpeningLemmas
pub mod SteadyLemmas
pub mod TextLemmas
