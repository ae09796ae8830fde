pub mod Asked
pub mod Comes
pub mod Lines
pub mod Peers
pub mod Places
