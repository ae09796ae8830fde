pub mod OnLiterals
pub mod Prefixes
pub mod FirstFault
mod Worked
mod OverRows
