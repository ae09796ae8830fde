pub mod Body
pub mod Chunked
pub mod Framing
pub mod Places
pub mod Rules
pub mod Sound
