pub mod Stands
pub mod Answered
pub mod Relayed
pub mod Whole
pub mod Coming
