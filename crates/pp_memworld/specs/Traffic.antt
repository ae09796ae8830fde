-- The other end of each connection, which of them a cue broke, and what is news of which.
use Rattle.std.specs.Prelude.{◌≡◌, ◌≢◌, ℕ, Bool, false, Option, Some, None, IsSome}
use Rattle.std.specs.Ordering.{nat_cmp}
use Rattle.std.specs.BTreeMap.{BTreeMap, get}
use Rattle.pp_memworld.specs.declared.peer.Peer.{Peer}
use Rattle.pp_memworld.specs.declared.traffic.News.{News}
use Rattle.pp_memworld.specs.declared.traffic.News.TheVariants.{Reached, Refused}

abbrev pub news_id : News → ℕ
news_id (Reached id) = id
news_id (Refused id) = id

-- the other end of the connection of this number
abbrev pub peer_at : BTreeMap ℕ Peer → ℕ → Option Peer
peer_at peers id = get nat_cmp peers id

-- every other connection is as it was
abbrev pub OthersStay : ℕ → BTreeMap ℕ Peer → BTreeMap ℕ Peer → Type 0
OthersStay id old new = (other : ℕ) → other ≢ id → peer_at new other ≡ peer_at old other

-- none is gone
abbrev pub NoneLeaves : BTreeMap ℕ Peer → BTreeMap ℕ Peer → Type 0
NoneLeaves old new = (id : ℕ) → IsSome (peer_at old id) → IsSome (peer_at new id)

abbrev pub broken_of : Option Peer → Bool
broken_of None = false
broken_of (Some peer) = peer.is_broken

abbrev pub is_broken_at : BTreeMap ℕ Peer → ℕ → Bool
is_broken_at peers id = broken_of (peer_at peers id)
