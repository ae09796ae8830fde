pub mod Lending
pub mod Peers
pub mod Placing
pub mod Searches
