pub mod Asks
pub mod Orders
