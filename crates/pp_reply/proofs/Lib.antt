pub mod KeptLemmas
pub mod Parts
pub mod PassedLemmas
mod Rows
