pub mod Left
pub mod Owned
pub mod Filled
pub mod Unended
pub mod Bodies
