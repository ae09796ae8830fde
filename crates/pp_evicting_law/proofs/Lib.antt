pub mod Anew
pub mod Few
pub mod Follows
pub mod Going
pub mod Leaving
pub mod Left
