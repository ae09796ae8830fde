pub mod Closes
pub mod Decides
pub mod Ends
pub mod Hears
pub mod Says
pub mod Walks
