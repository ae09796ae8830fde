pub mod All
pub mod Keeps
pub mod Plans
pub mod Runs
pub mod Stands
