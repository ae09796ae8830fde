-- From one keeping to the next nothing is to be kept, but for what grew.
use Rattle.std.proofs.Common.{◌≡◌, ◌≤◌, sym, subst, ap, ◌∙◌, ℕ, length, List, [], arith}
use Rattle.pp_cache.specs.Memory.{Memory}
use Rattle.pp_desk.specs.Closings.{Sides}
use Rattle.pp_desk.specs.declared.desk.Desk.{Desk}
use Rattle.pp_flow.specs.Changes.{numbers as flow_numbers}
use Rattle.pp_keeps_law.specs.All.{AreAmong}
use Rattle.pp_objects.specs.declared.id.ObjectId.{ObjectId}
use Rattle.pp_state.specs.Ends.{AreInOrder, parts}
use Rattle.pp_state.specs.declared.state.State.{State as Turn}
use Rattle.pp_store.specs.Kept.{KeptMap}
use Rattle.pp_grown_law.proofs.Gone.{given_stays, leaves_bring_nothing}
use Rattle.pp_grown_law.proofs.Handled.{events_bring}
use Rattle.pp_grown_law.proofs.Left.{none_is_among_any, none_is_left}
use Rattle.pp_grown_law.proofs.Less.{none_comes_of_less}
use Rattle.pp_grown_law.proofs.Noted.{nothing_is_noted}
use Rattle.pp_grown_law.proofs.Settled.{settlings_bring, waits_bring}
use Rattle.pp_grown_law.specs.Grown.{EventsNoteGrown, HasNothingToKeep, KeepingsLeaveNothing, LeavingsNoteGrown, NotedOnesHaveGrown, SettlingsLeaveNothing, WaitsLeaveNothing}
use Rattle.pp_grown_law.specs.Handled.{GrowsFew}
use Rattle.pp_grown_law.specs.Settled.{StaysAsGrown}

pub keepings_leave : KeepingsLeaveNothing
keepings_leave number room x y s t all done straight = record { none = none_is_left number x y s t done; grown = (nothing_is_noted room x y all straight).grown }

nothing_stays : (p q : Turn) (shelf : KeptMap) → StaysAsGrown p q shelf shelf → HasNothingToKeep p shelf → HasNothingToKeep q shelf
nothing_stays p q shelf stays has = record { none = none_comes_of_less [] p q shelf shelf stays.brings has.none; grown = stays.grown ∙ has.grown }

pub settlings_leave : SettlingsLeaveNothing
settlings_leave shelf x y log bounded are settles has = nothing_stays x.desk.state y.desk.state shelf (settlings_bring shelf x y log bounded are settles) has

pub waits_leave : WaitsLeaveNothing
waits_leave shelf before w clients d e f awaits rests has = nothing_stays d.state f.state shelf (waits_bring shelf before w clients d e f awaits rests) has

none_noted : (ids : List ObjectId) → ids ≡ [] → length ids ≤ 16
none_noted ids none = subst (λ (xs : List ObjectId). length xs ≤ 16) (sym none) (omega arith)

pub events_note : EventsNoteGrown
events_note event x y other whole handles has =
    let grows : GrowsFew x.moving.desk.state y.moving.desk.state x.shelf y.shelf = events_bring event x y other whole handles in
    record {
      few = grows.few (none_noted x.moving.desk.state.cache.grown has.grown);
      all = none_is_among_any y.moving.desk.state.cache.grown y.moving.desk.state y.shelf (none_comes_of_less [] x.moving.desk.state y.moving.desk.state x.shelf y.shelf grows.brings has.none);
    }

pub leavings_note : LeavingsNoteGrown
leavings_note shelf x y log order leaves has = record {
  few = subst (λ (ids : List ObjectId). length ids ≤ 16) (sym grown) has.few;
  all = subst (λ (ids : List ObjectId). AreAmong ids y.desk.state shelf) (sym grown) (none_comes_of_less x.desk.state.cache.grown x.desk.state y.desk.state shelf shelf (leaves_bring_nothing x y log shelf order leaves) has.all);
}
  where
    waiting : flow_numbers leaves.left.state.flow.waiting ≡ flow_numbers x.desk.state.flow.waiting
    waiting = ap (λ (t : Turn). flow_numbers t.flow.waiting) leaves.leaves.is.rest ∙ ap (λ (d : Desk). flow_numbers d.state.flow.waiting) leaves.regains.rest

    cache : y.desk.state.cache ≡ leaves.left.state.cache
    cache =
        ap (λ (z : Sides). z.parts.cache) (leaves.gives.is (subst (λ (ns : List ℕ). AreInOrder ns) (sym waiting) order))
        ∙ given_stays (flow_numbers leaves.left.state.flow.waiting) (parts leaves.left.state)

    grown : y.desk.state.cache.grown ≡ x.desk.state.cache.grown
    grown = ap (λ (m : Memory). m.grown) cache ∙ ap (λ (m : Memory). m.grown) leaves.leaves.is.cache.rest ∙ ap (λ (d : Desk). d.state.cache.grown) leaves.regains.rest

pub noted_grown : NotedOnesHaveGrown
noted_grown p shelf log faults has = record { few = has.few; all = has.all }
