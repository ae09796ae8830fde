pub mod Brings
pub mod Changes
pub mod Entries
pub mod Errands
pub mod Inside
pub mod Lending
