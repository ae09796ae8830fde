pub mod Lines
pub mod Lives
pub mod Serving
pub mod Breaks
pub mod Exits
pub mod Runs
