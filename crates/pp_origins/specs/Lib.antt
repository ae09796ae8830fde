pub mod Asked
pub mod Gots
pub mod Responses
