pub mod Age
pub mod Dates
pub mod Directives
pub mod Guessing
pub mod Joining
pub mod Lifetime
pub mod Ready
