pub mod BoundsLemmas
pub mod HoleLemmas
pub mod MemoryLemmas
pub mod NotesLemmas
pub mod SiteLemmas
pub mod UsesLemmas
