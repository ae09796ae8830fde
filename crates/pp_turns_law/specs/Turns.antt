-- How the state of a turn stands for that of the law, as far as what is due rests on it.
use Rattle.std.specs.Prelude.{◌≡◌, ℕ, true, false, List, [], Some, None, option_map}
use Rattle.pp_cache.specs.Bounds.{IsBounded}
use Rattle.pp_cache.specs.Memory.{Memory}
use Rattle.pp_flow_law.specs.Tables.{Leaving}
use Rattle.pp_law.specs.Lists.{Bytes}
use Rattle.pp_law.specs.State.{State, Client}
use Rattle.pp_law.specs.Table.{row_on_disk, row}
use Rattle.pp_objects.specs.Instances.{id_of, is_there, row_of}
use Rattle.pp_objects.specs.declared.id.ObjectId.{ObjectId}
use Rattle.pp_peers.specs.declared.peers.Peer.{Peer}
use Rattle.pp_seats.specs.declared.key.Key.{Key as OwnedKey}
use Rattle.pp_seats.specs.declared.seat.Answer.{Answer}
use Rattle.pp_seats.specs.declared.seat.Seat.{Seat}
use Rattle.pp_seats.specs.Dues.{is_refused_in, refused_in}
use Rattle.pp_seats.specs.Follows.{answer_in}
use Rattle.pp_seats.specs.Heads.{asked_in, owned_in}
use Rattle.pp_seats_law.specs.Dues.{AreApart}
use Rattle.pp_seats_law.specs.Seats.{ShowsSeat}
use Rattle.pp_state.specs.Ends.{parts}
use Rattle.pp_state.specs.declared.state.State.{State as Turn}
use Rattle.pp_states_law.specs.Steps.{ShowsSteps}

-- what the steps of the turn change stands for the law's, and so does what is set, and what the turn knows of the clock; the cache is
-- bounded, as each is
pub record ShowsTurn (number : ℕ → ℕ) (l : Leaving) (peers : List Peer) (p : Turn) (s : State) : Type 0 where
  pub steps : ShowsSteps number p.name.items l peers (parts p) s
  pub name : p.name.items ≡ s.settings.name
  pub shares : p.shares_fetches ≡ s.settings.shares_fetches
  pub clock : p.now ≡ s.clock
  pub ticked : p.is_ticked ≡ s.is_ticked
  pub stopped : p.is_stopped ≡ s.is_stopped
  pub bounded : IsBounded p.cache

-- the instance that it follows is there
abbrev pub IsFollowing : Memory → Seat → Type 0
IsFollowing m seat = (a : Answer) (id : ObjectId) → answer_in seat.stage ≡ Some a → a.source ≡ Some id → is_there id m.instances ≡ true

-- of all seats that show a client, and are not closing, amid a turn that shows the law's state
abbrev pub OfTurns : (Turn → State → Seat → Client → Type 0) → Type 0
OfTurns P = (number : ℕ → ℕ) (l : Leaving) (peers : List Peer) (p : Turn) (s : State) (name : Bytes) (seat : Seat) (c : Client) → ShowsTurn number l peers p s → ShowsSeat number name [] seat c → c.is_closing ≡ false → IsFollowing p.cache seat → P p s seat c

-- its request can be decided: memory was not refused for its key, nor for the row that its exchange brought; a row that is kept of its
-- key is in memory; and what its exchange joins is told apart from that row by its number
pub record IsDecidable (number : ℕ → ℕ) (p : Turn) (s : State) (seat : Seat) (c : Client) : Type 0 where
  pub key : refused_in seat.front ≡ Some 500 → ⊥
  pub brought : is_refused_in seat.brought ≡ false
  pub kept : (key : OwnedKey) → owned_in (asked_in seat.front) ≡ Some key → row s key.text.items ≡ None → row_on_disk s key.text.items ≡ None
  pub apart : (key : OwnedKey) → owned_in (asked_in seat.front) ≡ Some key → AreApart number (option_map id_of (row_of key.text.items p.cache.instances)) seat.brought
