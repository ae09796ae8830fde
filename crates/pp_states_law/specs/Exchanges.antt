-- One exchange is changed where it stands, or is over.
use Rattle.std.specs.Prelude.{◌≡◌, ℕ, false, List, [], ◌∷◌, ⊤, find, Some}
use Rattle.pp_flow.specs.Changes.{changed, without, unplaced as without_place, with_errand}
use Rattle.pp_flow.specs.Entries.{nobodys, is_number}
use Rattle.pp_flow_law.specs.Changes.{but, HasLeft}
use Rattle.pp_law.specs.Closing.{left_alone}
use Rattle.pp_law.specs.Connections.{end_exchange, on_exchange, unplaced}
use Rattle.pp_law.specs.Lists.{has_number}
use Rattle.pp_law.specs.State.{Conn}
use Rattle.pp_states_law.specs.States.{OfStates, ShowsState}
use Rattle.pp_flow.specs.declared.entry.Entry.{Entry}

-- its request leaves it
abbrev pub LeavesAreTheLaws : Type 0
LeavesAreTheLaws = OfStates (λ number name owed l p s. (n : ℕ)
    → ShowsState number name owed l (record p { flow = record p.flow { waiting = changed n nobodys p.flow.waiting; placed = changed n nobodys p.flow.placed } }) (on_exchange n left_alone s))

-- it stands in the line of no connection that goes on
abbrev pub StandsNowhere : ℕ → List Conn → Type 0
StandsNowhere n [] = ⊤
StandsNowhere n (k ∷ ks) = (k.is_closing ≡ false → has_number n k.line ≡ false) × StandsNowhere n ks

-- its place is taken away, and nothing of it was asked
abbrev pub UnplacesAreTheLaws : Type 0
UnplacesAreTheLaws = OfStates (λ number name owed l p s. (n : ℕ) (x : Entry) → find (is_number n) p.flow.placed ≡ Some x → HasLeft n s → StandsNowhere n s.conns
    → ShowsState number name owed (but n l) (record p { flow = with_errand n (record x.errand { asked = 0 }) (without_place n p.flow) }) (on_exchange n unplaced s))

-- it is over
abbrev pub EndsAreTheLaws : Type 0
EndsAreTheLaws = OfStates (λ number name owed l p s. (n : ℕ) → StandsNowhere n s.conns
    → ShowsState number name owed (but n l) (record p { flow = record p.flow { waiting = without n p.flow.waiting; placed = without n p.flow.placed } }) (end_exchange n s))
