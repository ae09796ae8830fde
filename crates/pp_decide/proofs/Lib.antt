pub mod DecideLemmas
pub mod DueLemmas
pub mod SharingLemmas
