pub mod Connection
pub mod Doors
pub mod Found
pub mod NetWorld
pub mod Readiness
