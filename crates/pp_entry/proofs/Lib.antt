pub mod AnyCase
pub mod LineLemmas
pub mod Parts
pub mod PlaceLemmas
pub mod ReadRows
pub mod RoundTrip
pub mod SpellingLemmas
mod Rows
