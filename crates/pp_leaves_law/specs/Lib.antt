pub mod Leaves
pub mod Pinned
