pub mod Bytes
pub mod Fields
pub mod Forwarding
pub mod Lines
pub mod Lists
pub mod Numbers
pub mod Parts
pub mod Quoting
