pub mod Behind
pub mod Cuts
pub mod Stands
pub mod Takes
