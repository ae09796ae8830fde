pub mod DecidingLemmas
pub mod FoundLemmas
pub mod LeadingLemmas
pub mod LeavingLemmas
pub mod RoundsLemmas
pub mod StepsLemmas
pub mod TakingLemmas
pub mod TickLemmas
