mod Bodies
pub mod Busy
pub mod Carried
mod Counted
mod Disproved
pub mod Dropped
mod Elsewhere
mod Filled
mod Followers
pub mod GivenAnswers
pub mod GivenCosts
pub mod GivenHeads
pub mod GivenRows
pub mod GivenSeats
pub mod Joined
pub mod Joining
mod JoinsRow
pub mod Keyed
mod Lacking
mod Made
mod Numbered
mod Orders
mod Others
mod Owned
pub mod Places
pub mod QuietAnswers
pub mod QuietCosts
pub mod QuietHeads
mod Relayed
pub mod Renewed
pub mod Sites
pub mod Standing
mod StillAsked
mod Taken
pub mod Through
mod ToCome
mod Told
pub mod Useless
