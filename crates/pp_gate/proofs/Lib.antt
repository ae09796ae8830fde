pub mod GateLemmas
pub mod Images
pub mod Ops
pub mod PlaceLemmas
pub mod PublishLemmas
mod Rows
pub mod SealLemmas
pub mod Views
pub mod WholeLemmas
