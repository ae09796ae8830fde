pub mod Decision
pub mod Fetch
pub mod Need
pub mod Requests
pub mod Row
pub mod Spans
