-- How a row leaves memory, as it is noted: another took its room, memory was refused for it, or a decision is next that brings
-- another in. All of it is ours.
use Rattle.std.specs.Prelude.{Bool, true, false, ◌&&◌, not, List, [], ◌∷◌, bytes_eq, Option, Some, None, option_map}
use Rattle.pp_text.specs.Bytes.{is_empty}
use Rattle.pp_law.specs.Connections.{client}
use Rattle.pp_law.specs.Deciding.{has_to_forget}
use Rattle.pp_law.specs.Due.{Due, Decide, first_due}
use Rattle.pp_law.specs.Lists.{Bytes, is_some_with}
use Rattle.pp_law.specs.State.{State, Instance, Evicting}
use Rattle.pp_law.specs.Table.{row, idle_row}
use Rattle.pp_law.specs.Phases.{may_in, decides, come_to_decide}

pub data Leaving : Type 0 where
  ForAnother : Leaving  -- it has left
  ForMemory : Instance → Leaving
  BeforeDecision : Instance → Leaving

abbrev pub if_so : (Instance → Bool) → Option Instance → Option Instance
if_so test None = None
if_so test (Some x) = elim (test x) [ true ↦ Some x | false ↦ None ]

abbrev pub is_first : Bytes → List Bytes → Bool
is_first key [] = false
is_first key (k ∷ keys) = bytes_eq k key

-- a row that came in this turn
abbrev pub refused_memory : State → Bytes → Option Instance
refused_memory s key = elim (may_in Evicting (λ t. is_empty t.forgotten) s) [
  | true ↦ if_so (λ x. x.is_new) (row s key)
  | false ↦ None
]

-- the client whose decision is next brings a row in, where as many are there as may be
abbrev pub forgets_next : State → Option Due → Bool
forgets_next s (Some (Decide n i d)) = is_some_with (has_to_forget s) (client s n)
forgets_next s other = false

abbrev pub makes_room : State → Bytes → Option Instance
makes_room s key = elim (forgets_next s (first_due s)) [ true ↦ if_so (λ x. bytes_eq x.key key && not x.is_new) (idle_row s) | false ↦ None ]

abbrev pub before_decision : State → Bytes → Option Instance
before_decision s key =
    let t : State = come_to_decide s in
    elim (decides t) [ true ↦ makes_room t key | false ↦ None ]

abbrev pub by_now : State → Bytes → Option Leaving
by_now s key = elim (refused_memory s key) [ Some x ↦ Some (ForMemory x) | None ↦ option_map BeforeDecision (before_decision s key) ]

abbrev pub leaving_as : State → Bytes → Option Leaving
leaving_as s key = elim (may_in Evicting (λ t. is_first key t.forgotten) s) [
  | true ↦ Some ForAnother
  | false ↦ by_now s key
]
