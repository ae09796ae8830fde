pub mod DecidingLemmas
pub mod FillingLemmas
pub mod GivingUpLemmas
