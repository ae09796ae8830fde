mod AddressLemmas
pub mod Lines
pub mod Reading
pub mod Words
mod Rows
