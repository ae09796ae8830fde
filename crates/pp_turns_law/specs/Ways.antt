-- The row that gives way to one that a decision brings in (ours: at most 1,024 rows).
use Rattle.std.specs.Prelude.{◌≡◌, ◌≤◌, ℕ, true, false, List, count_by, slice_get, Option, Some, None, option_map}
use Rattle.pp_cache_law.specs.Reads.{AreBusy}
use Rattle.pp_flow_law.specs.Tables.{Leaving}
use Rattle.pp_law.specs.Connections.{client, is_client}
use Rattle.pp_law.specs.Deciding.{decided, is_for_memory}
use Rattle.pp_law.specs.Due.{Decide, decides_for, first_due, next_due}
use Rattle.pp_law.specs.Leaving.{makes_room}
use Rattle.pp_law.specs.Lists.{Bytes}
use Rattle.pp_law.specs.Permits.{has_room_for}
use Rattle.pp_law.specs.Phases.{decides}
use Rattle.pp_law.specs.Requests.{key_in}
use Rattle.pp_law.specs.State.{State, Client, Instance as Known}
use Rattle.pp_law.specs.Table.{forget, idle_row, must_forget, rows}
use Rattle.pp_objects.specs.Instances.{Instance}
use Rattle.pp_peers.specs.declared.peers.Peer.{Peer}
use Rattle.pp_seats.specs.Heads.{asked_in, owned_in}
use Rattle.pp_seats.specs.declared.key.Key.{Key as OwnedKey}
use Rattle.pp_seats.specs.declared.seat.Seat.{Seat}
use Rattle.pp_state.specs.Pins.{is_for_memory as is_for_memory_in, busy_rows}
use Rattle.pp_state.specs.Ends.{parts}
use Rattle.pp_steps.specs.Evicting.{given_way, row_in_way}
use Rattle.pp_state.specs.declared.state.State.{State as Turn}
use Rattle.pp_states_law.specs.Steps.{ShowsSteps}
use Rattle.pp_target.specs.Key.{text_of}
use Rattle.pp_turns_law.specs.Rows.{with_row_of}
use Rattle.pp_world.specs.declared.note.Decision.{Decision}

-- the turn shows the law's state with the row of that key, which the request of the client at this place names; these are the
-- instances that exchanges are bound to, and no more rows were there than may be
pub record MayYield (number : ℕ → ℕ) (name : Bytes) (l : Leaving) (peers : List Peer) (turn : Turn) (i : ℕ) (key : OwnedKey) (s : State) : Type 0 where
  pub shows : ShowsSteps number name l peers (parts turn) (with_row_of key.text.items s)
  pub seat : Seat
  pub here : slice_get turn.seats.items i ≡ Some seat
  pub owned : owned_in (asked_in seat.front) ≡ Some key
  pub busy : AreBusy number turn.cache (with_row_of key.text.items s) (busy_rows turn.flow)
  pub most : rows s ≤ 1024

-- this one does: it is the law's that is next, and has to leave; behind it the turn shows what the law has without it, and no other has to
pub record GivesWay (number : ℕ → ℕ) (name : Bytes) (l : Leaving) (peers : List Peer) (turn : Turn) (i : ℕ) (d : Decision) (key : Bytes) (s : State) (j : Instance) : Type 0 where
  pub row : Known
  pub next : idle_row s ≡ Some row
  pub same : j.key ≡ row.key
  pub must : must_forget s key ≡ true
  pub shows : ShowsSteps number name l peers (parts (given_way d i turn)) (with_row_of key (forget row.id s))
  pub room : must_forget (forget row.id s) key ≡ false

-- or none does, and none has to
abbrev pub IsWay : (ℕ → ℕ) → Bytes → Leaving → List Peer → Turn → ℕ → Decision → Bytes → State → Option Instance → Type 0
IsWay number name l peers turn i d key s None = must_forget s key ≡ false
IsWay number name l peers turn i d key s (Some j) = GivesWay number name l peers turn i d key s j

-- before a decision that is not for want of memory
abbrev pub WaysAreTheLaws : Type 0
WaysAreTheLaws = (number : ℕ → ℕ) (name : Bytes) (l : Leaving) (peers : List Peer) (turn : Turn) (i : ℕ) (d : Decision) (key : OwnedKey) (s : State) → MayYield number name l peers turn i key s → is_for_memory_in d ≡ false
    → IsWay number name l peers turn i d key.text.items s (row_in_way d i turn)

-- ---- of the law alone

-- the row that has to leave for the decision that is next may be noted, unless it came in this turn
abbrev pub ItsNoteIsPermitted : Type 0
ItsNoteIsPermitted = (s : State) (n index : ℕ) (due : Decision) (c : Client) (key : Bytes) (x : Known) → first_due s ≡ Some (Decide n index due) → client s n ≡ Some c → option_map text_of (key_in c.front) ≡ Some key → must_forget s key ≡ true → idle_row s ≡ Some x
    → x.is_new ≡ false → makes_room s x.key ≡ Some x

-- behind it, for that client
abbrev pub left_for : Known → State → State
left_for x s = record (forget x.id s) { made_room_for = decides_for (first_due s) }

-- decisions go on, it comes next, and there is room for the row of its key
pub record IsStillDue (s : State) (n index : ℕ) (d : Decision) : Type 0 where
  pub taking : decides s ≡ true
  pub next : next_due s ≡ Some (Decide n index d)
  pub room : has_room_for s n d ≡ true

-- behind the note that decision is due, whatever is due to others without the row
abbrev pub ItsDecisionIsStillDue : Type 0
ItsDecisionIsStillDue = (s : State) (n index : ℕ) (due : Decision) (c : Client) (key : Bytes) (x : Known) → first_due s ≡ Some (Decide n index due) → client s n ≡ Some c → count_by (is_client n) s.clients ≤ 1 → option_map text_of (key_in c.front) ≡ Some key → must_forget s key ≡ true
    → idle_row s ≡ Some x → decides s ≡ true → must_forget (forget x.id s) key ≡ false → IsStillDue (left_for x s) n index due

-- where none has to leave, a decision is the same with the row of its key in memory before it
abbrev pub RowsComeInWithDecisions : Type 0
RowsComeInWithDecisions = (s : State) (c : Client) (d : Decision) (key : Bytes) → is_for_memory d ≡ false → option_map text_of (key_in c.front) ≡ Some key → must_forget s key ≡ false → decided c d (with_row_of key s) ≡ decided c d s
