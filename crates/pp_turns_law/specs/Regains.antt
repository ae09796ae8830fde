-- Attempts count anew for those whose next byte is held (ours: how often a request is tried).
use Rattle.std.specs.Prelude.{◌≡◌, ℕ, false, List, slice_get, Some}
use Rattle.pp_turns_law.specs.Turns.{IsFollowing, ShowsTurn}
use Rattle.pp_flow_law.specs.Tables.{Leaving}
use Rattle.pp_law.specs.Replies.{regained}
use Rattle.pp_law.specs.State.{State}
use Rattle.pp_peers.specs.declared.peers.Peer.{Peer}
use Rattle.pp_seats.specs.declared.seat.Seat.{Seat}
use Rattle.pp_state.specs.Ends.{all_regained}
use Rattle.pp_state.specs.declared.state.State.{State as Turn}
use Rattle.pp_turns_law.specs.Firsts.{AreAwake}

-- what each client that is not closing follows is there
abbrev pub AllFollow : Turn → Type 0
AllFollow p = (i : ℕ) (seat : Seat) → slice_get p.seats.items i ≡ Some seat → seat.is_closing ≡ false → IsFollowing p.cache seat

-- what a turn makes of those who are looked at
pub record HasRegained (old new : Turn) : Type 0 where
  pub seats : new.seats.items ≡ all_regained old.cache old.awake.items old.seats.items
  pub rest : record new { seats = old.seats } ≡ old

abbrev pub RegainsAreTheLaws : Type 0
RegainsAreTheLaws = (number : ℕ → ℕ) (l : Leaving) (peers : List Peer) (p q : Turn) (s : State) → ShowsTurn number l peers p s → AreAwake p → AllFollow p → HasRegained p q → ShowsTurn number l peers q (regained s)

-- of the law: they do once, however often they are counted
abbrev pub RegainsOnce : Type 0
RegainsOnce = (s : State) → regained (regained s) ≡ regained s
