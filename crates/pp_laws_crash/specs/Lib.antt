pub mod Changes
pub mod Crash
