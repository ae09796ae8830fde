pub mod Left
pub mod Unticked
