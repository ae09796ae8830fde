-- Which decision or cut is due, and which comes first (RFC 2616, section 8.1; the order is ours).
use Rattle.std.specs.Prelude.{ℕ, ◌-◌, Bool, true, false, ◌&&◌, ◌||◌, not, nat_le, List, [], ◌∷◌, find, Option, Some, None, option_map}
use Rattle.pp_world.specs.declared.note.Cause.{Cause}
use Rattle.pp_world.specs.declared.note.Cause.TheVariants.{Superseded, Origin, Short, Idle, Stop}
use Rattle.pp_world.specs.declared.note.Decision.{Decision}
use Rattle.pp_world.specs.declared.note.Decision.TheVariants.{Refuse}
use Rattle.pp_law.specs.Connections.{client, is_trying}
use Rattle.pp_law.specs.Lists.{first_some, is_some_with}
use Rattle.pp_law.specs.Offers.{has_to_say}
use Rattle.pp_law.specs.Stages.{is_begun, is_followed_by, is_page, passed_of}
use Rattle.pp_law.specs.State.{State, Client, Course, Trying, OutOfTries, AskTooLong, RowRefused, Brought, Awaited, Undecided, Waiting, Passing, Answering, Reply}
use Rattle.pp_law.specs.Table.{source_of, next_of, is_provided}
use Rattle.pp_law.specs.Decisions.{decide}
use Rattle.pp_law.specs.Sharing.{due_undecided}

-- a request that cannot be answered is refused
abbrev pub give_up : Course → Option Decision → Option Decision
give_up (Trying n) other = other
give_up OutOfTries other = Some (Refuse 502)
give_up AskTooLong other = Some (Refuse 431)
give_up RowRefused other = Some (Refuse 500)

-- the head of its exchange's response came
abbrev pub is_told : Brought → Bool
is_told Awaited = false
is_told brought = true

-- the row that it was decided by was replaced or cleared
abbrev pub has_lost_row : State → Reply → Bool
has_lost_row s r = is_followed_by r.decision && not (is_some_with (λ x. not x.is_retired) (source_of s r))

-- of a reply that was decided: as long as it has not begun
abbrev pub due_reply : State → Client → Reply → Option Decision
due_reply s c r = elim r.has_begun [
  | true ↦ None
  | false ↦ give_up c.course (elim (has_lost_row s r) [ true ↦ decide s c | false ↦ None ])
]

abbrev pub due_by_stage : State → Client → Option Decision
due_by_stage s c = elim c.stage [
  | Undecided ↦ due_undecided s c
  | Waiting ↦ give_up c.course (elim (is_told c.brought) [ true ↦ decide s c | false ↦ None ])
  | Passing ↦ give_up c.course None
  | Answering r ↦ due_reply s c r
]

abbrev pub due_decision : State → Client → Option Decision
due_decision s c = elim (c.is_closing || s.is_stopped) [ true ↦ None | false ↦ due_by_stage s c ]

-- its request was decided, and is to have a reply that is no page
abbrev pub still_waits : Client → Bool
still_waits c = elim c.stage [ Undecided ↦ false | Waiting ↦ true | Passing ↦ false | Answering r ↦ not (r.has_begun || is_page r.decision) ]

-- ---- cuts

-- it is in the midst of a reply, and nothing that came is left to say
abbrev pub is_dry : State → Client → Bool
is_dry s c = is_begun c && not (has_to_say s c)

-- its response ended early; a bad one is over before its connection is closed
abbrev pub is_short : Client → Bool
is_short c = is_some_with (λ p. p.is_short && not p.pipe.is_finished) (passed_of c)

-- another version stands, and of this one nothing more comes
abbrev pub is_superseded : State → Client → Bool
is_superseded s c = is_some_with (λ n. n.source.is_retired && not (is_provided s n)) (next_of s c)

-- ours: how long it may be idle. One that reads slowly shows that only where the system's buffer has room again: so it has longer
-- in the midst of a reply
abbrev pub patience : Client → ℕ
patience c = elim (is_begun c) [ true ↦ 900 | false ↦ 120 ]

-- at a tick
abbrev pub is_idle : State → Client → Bool
is_idle s c = s.is_ticked && nat_le (patience c) (s.clock - c.mark)

-- the causes of a cut, in their order. What came is said before a reply is cut for its origin
abbrev pub causes : State → Client → List (Bool × Cause)
causes s c =
    (s.is_stopped && is_begun c, Stop)
    ∷ (is_dry s c && is_short c, Short)
    ∷ (is_dry s c && not (is_trying c.course), Origin)
    ∷ (is_begun c && is_superseded s c, Superseded)
    ∷ (is_idle s c, Idle)
    ∷ []

-- the first that applies
abbrev pub cut_in : State → Client → Option Cause
cut_in s c = option_map (λ cause. cause.1) (find (λ cause. cause.0) (causes s c))

abbrev pub due_cut : State → Client → Option Cause
due_cut s c = elim c.is_closing [ true ↦ None | false ↦ cut_in s c ]

pub data Due : Type 0 where
  Decide : ℕ → ℕ → Decision → Due
  CutOff : ℕ → Cause → Due

abbrev pub due_of : State → Client → Option Due
due_of s c = elim (due_cut s c) [
  | Some cause ↦ Some (CutOff c.number cause)
  | None ↦ elim (due_decision s c) [ Some d ↦ Some (Decide c.number c.index d) | None ↦ None ]
]

-- clients stand in the order of their numbers
abbrev pub first_due : State → Option Due
first_due s = first_some (due_of s) s.clients

abbrev pub due_to : State → ℕ → Option Due
due_to s n = elim (client s n) [ None ↦ None | Some c ↦ due_of s c ]

-- what comes next: what is due first; and behind a row that left memory for a client's decision, what is due to that client, though
-- without the row something may be due to one who comes before
abbrev pub next_due : State → Option Due
next_due s = elim s.made_room_for [ None ↦ first_due s | Some n ↦ due_to s n ]

abbrev pub decides_for : Option Due → Option ℕ
decides_for (Some (Decide n i d)) = Some n
decides_for due = None
