pub mod Agreeing
pub mod DateLemmas
pub mod Indexing
pub mod KeptLemmas
pub mod Making
pub mod OneRow
pub mod Refreshing
pub mod Search
pub mod Settling
pub mod Slots
pub mod Sound
pub mod Staying
pub mod TextLemmas
mod Rows
