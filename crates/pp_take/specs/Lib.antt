pub mod Deciding
pub mod Filling
pub mod GivingUp
pub mod Unplaced
