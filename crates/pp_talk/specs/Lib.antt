pub mod Loading
pub mod Talking
