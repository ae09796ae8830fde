pub mod Changes
pub mod Frames
pub mod Reads
pub mod Tables
