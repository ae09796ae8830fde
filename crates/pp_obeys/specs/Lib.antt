pub mod Obeys
pub mod Failures
pub mod Moves
pub mod Laws
pub mod Calls
