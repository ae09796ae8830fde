mod Bodies
mod Came
mod Pieces
mod Happenings
mod Laws
mod Coming
pub mod Hosts
mod Relayed
mod Ours
mod Arrived
mod HeardOn
mod WholeLaw
mod Worked
