pub mod Entries
pub mod Fields
pub mod Gates
pub mod Places
pub mod Puts
pub mod Spelling
pub mod Texts
