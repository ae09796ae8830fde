pub mod FieldLemmas
pub mod Parts
mod Rows
