-- The phases of a turn: what each brings as it begins, without a happening, and when it is done. All of it is ours.
use Rattle.std.specs.Prelude.{ℕ, Bool, true, false, ◌&&◌, ◌||◌, not, List, [], ◌∷◌, is_some, Option, None}
use Rattle.std.specs.List.{list_any}
use Rattle.pp_text.specs.Bytes.{is_empty}
use Rattle.pp_law.specs.Chunks.{victim}
use Rattle.pp_law.specs.Connections.{placing, Pause, AllPlaced}
use Rattle.pp_law.specs.Due.{first_due}
use Rattle.pp_law.specs.Followers.{fill, give_up_asks}
use Rattle.pp_law.specs.Opening.{is_at}
use Rattle.pp_law.specs.Replies.{begin_replies}
use Rattle.pp_law.specs.State.{State, Phase, Awaiting, Handling, Evicting, Keeping, Deciding, Following, Connecting, DecidingAgain, Owed, Free}
use Rattle.pp_law.specs.Store.{is_done_on_disk}
use Rattle.pp_law.specs.Table.{pins}
use Rattle.pp_law.specs.Unseen.{drop_unseen}

-- those of a turn that is under way, in their order
abbrev pub phases : List Phase
phases = Handling ∷ Evicting ∷ Keeping ∷ Deciding ∷ Following ∷ Connecting ∷ DecidingAgain ∷ []

abbrev pub is_awaiting : State → Bool
is_awaiting s = is_at Awaiting s

abbrev pub is_under_way : State → Bool
is_under_way s = list_any (λ p. is_at p s) phases

abbrev pub in_phase : Phase → State → State
in_phase phase s = record s { phase = phase }

-- ---- what the next one brings

-- asks that bring nothing any more are given up before the disk; what nobody will see is dropped, asks that wait elsewhere for nothing
-- are given up, so that nobody counts on them, and followers ask for what is missing, before connections are closed; and before anything is decided again, exchanges get their places, as far as no new
-- connection is needed
abbrev pub behind : Phase → State → State
behind Handling s = in_phase Evicting s
behind Evicting s = give_up_asks (in_phase Keeping s)
behind Keeping s = in_phase Deciding s
behind Deciding s = in_phase Following s
behind Following s = fill (give_up_asks (drop_unseen (in_phase Connecting s)))
behind Connecting s = (placing (in_phase DecidingAgain s)).state
behind phase s = s

unfoldable pub next : State → State
next s = behind s.phase s

-- ---- when one is done

abbrev pub is_free : Owed → Bool
is_free Free = true
is_free owed = false

-- the chunk that has to go next
abbrev pub due_victim : State → Option (ℕ × ℕ)
due_victim s = elim s.is_evicting [ true ↦ victim (pins s) s | false ↦ None ]

abbrev pub has_closings : State → Bool
has_closings s = list_any (λ c. c.is_closing) s.clients || list_any (λ k. k.is_closing) s.conns

abbrev pub is_placed : Pause → Bool
is_placed AllPlaced = true
is_placed pause = false

-- what was owed to the event was read or written; who left memory is noted, and no chunk has to go; the disk is at rest; nothing
-- is due; nobody is left to be closed, and each exchange has its place, or none to go to
abbrev pub is_done_with : Phase → State → Bool
is_done_with Handling s = is_free s.owed
is_done_with Evicting s = is_empty s.forgotten && not (is_some (due_victim s))
is_done_with Keeping s = is_done_on_disk s
is_done_with Deciding s = not (is_some (first_due s))
is_done_with Following s = true
is_done_with Connecting s = not (has_closings s) && is_placed (placing s).pause
is_done_with DecidingAgain s = not (is_some (first_due s))
is_done_with phase s = false

abbrev pub is_done : State → Bool
is_done s = is_done_with s.phase s

-- ---- the state in which a happening comes

abbrev pub passed : (State → Bool) → State → State
passed stops s = elim (stops s) [ true ↦ s | false ↦ elim (is_done s) [ true ↦ next s | false ↦ s ] ]

-- from each phase that is done to the next, up to where this holds
unfoldable pub come : (State → Bool) → List Phase → State → State
come stops [] s = s
come stops (p ∷ ps) s = come stops ps (elim (is_at p s) [ true ↦ passed stops s | false ↦ s ])

unfoldable pub come_to : Phase → State → State
come_to phase s = come (is_at phase) phases s

-- in its phase, and where this holds then
abbrev pub may_in : Phase → (State → Bool) → State → Bool
may_in phase test s =
    let t : State = come_to phase s in
    elim (is_at phase t) [ true ↦ test t | false ↦ false ]

-- a decision or cut comes where one is due; and where none is, behind the places
abbrev pub decides : State → Bool
decides s = elim (is_at Deciding s) [ true ↦ not (is_done s) | false ↦ is_at DecidingAgain s ]

unfoldable pub come_to_decide : State → State
come_to_decide s = come decides phases s

abbrev pub may_decide : (State → Bool) → State → Bool
may_decide test s =
    let t : State = come_to_decide s in
    elim (decides t) [ true ↦ test t | false ↦ false ]

-- what is decided behind the places may bring more: the phases behind a decision are gone through once more
unfoldable pub deciding : State → State
deciding s = in_phase Deciding (come_to_decide s)

abbrev pub may_end : State → Bool
may_end s = may_in DecidingAgain is_done s

-- at its end replies begin
unfoldable pub ending : State → State
ending s = begin_replies (come_to DecidingAgain s)
