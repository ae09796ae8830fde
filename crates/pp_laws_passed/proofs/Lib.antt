pub mod Same
pub mod SameCases
pub mod SameRows
pub mod Fed
pub mod Cases
pub mod FedAsks
pub mod SameHeads
pub mod Delivered
pub mod FedHeads
pub mod FedTurns
pub mod FedReplies
pub mod FedHappenings
mod Worked
