-- What followers ask for is what the law has them ask for (RFC 7233, sections 3.2 and 4.3; ours: chunk by chunk).
use Rattle.std.specs.Prelude.{◌≡◌, ◌≤◌, ◌+◌, ◌-◌, ◌^◌, ℕ, true, false, is_some, length, List, Some}
use Rattle.pp_turns_law.specs.Needs.{IsWithin}
use Rattle.pp_cache.specs.Bounds.{IsBounded}
use Rattle.pp_cache.specs.Memory.{Memory}
use Rattle.pp_turns_law.specs.Decides.{IsAtPlace}
use Rattle.pp_turns_law.specs.Turns.{IsFollowing, ShowsTurn}
use Rattle.pp_flow_law.specs.Tables.{Leaving}
use Rattle.pp_law.specs.Followers.{fill, fill_for}
use Rattle.pp_law.specs.Lists.{Bytes}
use Rattle.pp_law.specs.State.{State, Client}
use Rattle.pp_law.specs.Table.{Next, next_of}
use Rattle.pp_peers.specs.declared.peers.Peer.{Peer}
use Rattle.pp_seats.specs.Follows.{next_of as next_in_turn}
use Rattle.pp_seats.specs.Heads.{asked_in, owned_in}
use Rattle.pp_seats.specs.declared.seat.Next.{Next as SeatNext}
use Rattle.pp_seats.specs.declared.seat.Seat.{Seat}
use Rattle.pp_seats_law.specs.Fates.{is_refused}
use Rattle.pp_states_law.specs.Decisions.{AsksOnce}
use Rattle.pp_take.specs.Deciding.{may_ask}
use Rattle.pp_state.specs.Ends.{KeepsRest, Parts, parts}
use Rattle.pp_take.specs.Filling.{filled, filled_for}
use Rattle.pp_state.specs.declared.state.State.{State as Turn}
use Rattle.pp_states_law.specs.Steps.{ShowsSteps}
use Rattle.pp_turns_law.specs.Firsts.{AreAwake}

-- ---- one client

-- what the steps of a turn change shows the law's state; the proxy's name is that of its settings, and the cache is bounded, as each is
pub record ShowsParts (number : ℕ → ℕ) (name : Bytes) (l : Leaving) (peers : List Peer) (p : Parts) (s : State) : Type 0 where
  pub steps : ShowsSteps number name l peers p s
  pub named : name ≡ s.settings.name
  pub bounded : IsBounded p.cache

-- it wants a byte of what it follows: its request has a key, and memory was refused for no row that it waits for
pub record MayWant (seat : Seat) (c : Client) : Type 0 where
  pub keyed : is_some (owned_in (asked_in seat.front)) ≡ true
  pub given : is_refused c.course ≡ false

-- a client that is not closing: what it follows is there; and the byte that it wants next is one of the body, of which what is kept on
-- the disk ends with a chunk, or with the body
pub record MayFollow (m : Memory) (s : State) (seat : Seat) (c : Client) : Type 0 where
  pub there : IsFollowing m seat
  pub wants : (x : SeatNext) → next_in_turn seat ≡ Some x → MayWant seat c
  pub within : (n : Next) → next_of s c ≡ Some n → IsWithin s n

-- and that has one exchange at most, while there may be another
pub record MayFill (i : ℕ) (p : Parts) (s : State) (seat : Seat) (c : Client) : Type 0 where
  pub place : IsAtPlace i p s seat c
  pub follows : c.is_closing ≡ false → MayFollow p.cache s seat c
  pub asks : AsksOnce c.number s
  pub room : may_ask p.flow ≡ true

-- the exchange that it lacks begins, or what it would ask is too long, or it lacks none
abbrev pub OneFillsAsTheLaws : Type 0
OneFillsAsTheLaws = (number : ℕ → ℕ) (name : Bytes) (l : Leaving) (peers : List Peer) (p : Parts) (s : State) (i : ℕ) (seat : Seat) (c : Client) → ShowsParts number name l peers p s → MayFill i p s seat c
    → ShowsParts number name l peers (filled_for name i p) (fill_for c s)

-- ---- all that are looked at

-- as the call says it
pub record IsFilled (p q : Turn) : Type 0 where
  pub is : parts q ≡ filled p.is_stopped p.name.items p.awake.items (parts p)
  pub rest : KeepsRest p q

-- each may follow, and has one exchange at most
pub record MayAllFill (p : Turn) (s : State) : Type 0 where
  pub follow : (i : ℕ) (seat : Seat) (c : Client) → IsAtPlace i (parts p) s seat c → c.is_closing ≡ false → MayFollow p.cache s seat c
  pub asks : (n : ℕ) → AsksOnce n s

-- and until all is to be closed there is room for an exchange of each: of 1,024 at most 768 are under way before (Asks.`HasFewExchanges` of
-- `pp_laws_asks`), and there are at most 256 clients
pub record HasRoomForAll (p : Turn) (s : State) : Type 0 where
  pub exchanges : length s.exchanges + length p.awake.items ≤ 1024
  pub numbers : s.next_exchange + length p.awake.items ≤ 2 ^ 64 - 1

-- what the turn has behind it shows the law's state behind it, and each has one exchange at most
pub record IsFilledAs (number : ℕ → ℕ) (l : Leaving) (peers : List Peer) (q : Turn) (s : State) : Type 0 where
  pub turn : ShowsTurn number l peers q s
  pub asks : (n : ℕ) → AsksOnce n s

abbrev pub AllFillAsTheLaws : Type 0
AllFillAsTheLaws = (number : ℕ → ℕ) (l : Leaving) (peers : List Peer) (p q : Turn) (s : State) → ShowsTurn number l peers p s → AreAwake p → MayAllFill p s → (s.is_stopped ≡ false → HasRoomForAll p s) → IsFilled p q
    → IsFilledAs number l peers q (fill s)
