pub mod Adding
pub mod Cells
pub mod Holes
pub mod Places
pub mod Spans
