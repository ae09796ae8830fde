pub mod Breaking
pub mod Folders
pub mod Fresh
pub mod Judging
pub mod LineLemmas
pub mod Living
pub mod Starting
pub mod TurnByTurn
