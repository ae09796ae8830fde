pub mod Bounds
pub mod Holes
pub mod Memory
pub mod Named
pub mod Notes
pub mod Offsets
pub mod OnDisk
pub mod Uses
