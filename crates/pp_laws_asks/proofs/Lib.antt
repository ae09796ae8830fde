pub mod AsksFacts
pub mod AsksHappenings
pub mod AsksLaws
pub mod InOrder
pub mod OneFetch
mod Worked
