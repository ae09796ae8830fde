pub mod TagRoom
pub mod LineLemmas
pub mod OnLiterals
mod Rows
