pub mod Firsts
pub mod NoneFinished
