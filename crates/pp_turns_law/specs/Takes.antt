-- A decision that is taken is what the law makes of it (RFC 2616, sections 6, 8.1.4 and 13).
use Rattle.std.specs.Prelude.{◌≡◌, ℕ, true, false, [], is_some, Some, None}
use Rattle.pp_turns_law.specs.Decides.{FollowsWhatIsThere, IsDecided, MayRefuse}
use Rattle.pp_turns_law.specs.Follows.{MayFollow}
use Rattle.pp_law.specs.After.{take_decision}
use Rattle.pp_law.specs.Connections.{client}
use Rattle.pp_law.specs.Deciding.{decided, is_for_memory}
use Rattle.pp_law.specs.Lists.{Bytes}
use Rattle.pp_law.specs.Replies.{regained}
use Rattle.pp_law.specs.State.{State, Client}
use Rattle.pp_law.specs.Table.{row, row_on_disk}
use Rattle.pp_seats.specs.Dues.{is_refused_in, refused_in}
use Rattle.pp_seats.specs.Heads.{asked_in, owned_in}
use Rattle.pp_seats.specs.declared.key.Key.{Key}
use Rattle.pp_seats.specs.declared.seat.Seat.{Seat}
use Rattle.pp_take.specs.Deciding.{Takes, afforded, ask_at}
use Rattle.pp_state.specs.Ends.{Parts, parts}
use Rattle.pp_due.specs.Entering.{refused_at}
use Rattle.pp_state.specs.declared.state.State.{State as Turn}
use Rattle.pp_states_law.specs.Steps.{OfSteps, ShowsSteps}
use Rattle.pp_world.specs.declared.note.Decision.{Decision}
use Rattle.pp_world.specs.declared.note.Decision.TheVariants.{Refuse, Hit, Part, Head, NotModified, Unsatisfiable, Relay, Validate, Fetch, Pass}

-- ---- what each kind of decision rests on

-- it asks an origin: its row was not refused memory, what it follows is there, and what it asks fits into an ask
pub record MayAskFor (name : Bytes) (i : ℕ) (d : Decision) (p : Parts) (s : State) (seat : Seat) : Type 0 where
  pub given : is_refused_in seat.brought ≡ false
  pub there : FollowsWhatIsThere i p
  pub asks : is_some (ask_at name i d p) ≡ true
  pub named : name ≡ s.settings.name

-- a response is passed
pub record MayRelay (i : ℕ) (p : Parts) (seat : Seat) : Type 0 where
  pub given : is_refused_in seat.brought ≡ false
  pub there : FollowsWhatIsThere i p

abbrev pub MayDo : Bytes → ℕ → Decision → Parts → State → Seat → Client → Type 0
MayDo name i (Refuse status) p s seat c = MayRefuse i status p seat
MayDo name i Pass p s seat c = MayAskFor name i Pass p s seat
MayDo name i Fetch p s seat c = MayAskFor name i Fetch p s seat
MayDo name i Validate p s seat c = MayAskFor name i Validate p s seat
MayDo name i Relay p s seat c = MayRelay i p seat
MayDo name i (Hit from to) p s seat c = MayFollow i p s seat c
MayDo name i (Part from to) p s seat c = MayFollow i p s seat c
MayDo name i Head p s seat c = MayFollow i p s seat c
MayDo name i NotModified p s seat c = MayFollow i p s seat c
MayDo name i Unsatisfiable p s seat c = MayFollow i p s seat c

-- its key is known, and the row of that is in memory where one is kept: the program brings it in before the decision, and the law with
-- it. One for want of memory brings none in
pub record HasItsRow (d : Decision) (s : State) (seat : Seat) : Type 0 where
  pub key : is_for_memory d ≡ false → refused_in seat.front ≡ Some 500 → ⊥
  pub kept : is_for_memory d ≡ false → (key : Key) → owned_in (asked_in seat.front) ≡ Some key → row s key.text.items ≡ None → row_on_disk s key.text.items ≡ None

-- ---- it is taken

-- as the law has it before attempts count anew
abbrev pub taken : Client → Decision → State → State
taken c d s = record (decided c d s) { forgotten = []; made_room_for = None }

-- of a decision that is due, where there is no memory to ask a refusal
abbrev pub TakesAreTheLaws : Type 0
TakesAreTheLaws = OfSteps (λ number name l peers p s. (turn : Turn) (i : ℕ) (due : Decision) (seat : Seat) (c : Client) (new : Parts) → parts turn ≡ p → IsDecided i p s seat c → HasItsRow (afforded i due turn) s seat → MayDo name i (afforded i due turn) p s seat c
    → Takes name i (afforded i due turn) p new → ShowsSteps number name l peers new (taken c (afforded i due turn) s))

-- where memory is refused for the kept row of its key, none comes in, and the request is refused, whatever its exchange brought
abbrev pub RefusedRowsAreTheLaws : Type 0
RefusedRowsAreTheLaws = OfSteps (λ number name l peers p s. (i : ℕ) (seat : Seat) (c : Client) (new : Parts) → IsDecided i p s seat c → MayRefuse i 500 p seat → Takes name i (Refuse 500) (record p { seats = refused_at i p.seats }) new
    → ShowsSteps number name l peers new (taken c (Refuse 500) s))

-- they do behind it
abbrev pub TakingsRegain : Type 0
TakingsRegain = (s : State) (n : ℕ) (d : Decision) (c : Client) → client s n ≡ Some c → take_decision n d s ≡ regained (taken c d s)
