-- A reply by the row of its key is what the law makes of it (RFC 2616, sections 13 and 14).
use Rattle.std.specs.Prelude.{◌≡◌, ◌≤◌, ℕ, false, length, Some}
use Rattle.pp_turns_law.specs.Decides.{FollowsWhatIsThere, IsDecided}
use Rattle.pp_law.specs.Deciding.{follow, span_of}
use Rattle.pp_law.specs.Lists.{Bytes}
use Rattle.pp_law.specs.State.{State, Client, Instance as Known}
use Rattle.pp_law.specs.Table.{follows, row}
use Rattle.pp_seats.specs.Dues.{is_refused_in, refused_in}
use Rattle.pp_seats.specs.declared.seat.Seat.{Seat}
use Rattle.pp_take.specs.Deciding.{followed_at}
use Rattle.pp_state.specs.Ends.{Parts}
use Rattle.pp_states_law.specs.Steps.{OfSteps, ShowsSteps}
use Rattle.pp_world.specs.declared.note.Decision.{Decision}

-- what it followed, if anything, is the row of its key no more
abbrev pub FollowsNoRow : State → Client → Type 0
FollowsNoRow s c = (key : Bytes) (x : Known) → row s key ≡ Some x → follows x.id c ≡ false

-- it may be answered by a row: memory was refused neither for that nor for its key, what it follows is there and is no row any more,
-- and there are no more clients than may be
pub record MayFollow (i : ℕ) (p : Parts) (s : State) (seat : Seat) (c : Client) : Type 0 where
  pub given : is_refused_in seat.brought ≡ false
  pub key : refused_in seat.front ≡ Some 500 → ⊥
  pub there : FollowsWhatIsThere i p
  pub other : FollowsNoRow s c
  pub few : length s.clients ≤ 256

-- the client follows the row of its key from then on, and its request leaves an exchange that brings nothing of what is wanted of it
abbrev pub FollowsAreTheLaws : Type 0
FollowsAreTheLaws = OfSteps (λ number name l peers p s. (i : ℕ) (d : Decision) (seat : Seat) (c : Client) → IsDecided i p s seat c → MayFollow i p s seat c → ShowsSteps number name l peers (followed_at i d (span_of d) p) (follow c d s))
