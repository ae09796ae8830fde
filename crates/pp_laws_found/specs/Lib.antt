pub mod Counts
pub mod Found
