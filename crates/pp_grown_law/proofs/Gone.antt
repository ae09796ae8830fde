-- Chunks and cells alone change where memory is left.
use Rattle.std.proofs.Common.{◌≡◌, refl, sym, subst, ap, ◌∙◌, ℕ, Bool, true, false, List, [], ◌∷◌, Some}
use Rattle.pp_cache.specs.Memory.{Memory, is_in_memory}
use Rattle.pp_desk.specs.Closings.{Sides}
use Rattle.pp_desk.specs.declared.desk.Desk.{Desk}
use Rattle.pp_flow.specs.Changes.{entry_of, numbers as flow_numbers}
use Rattle.pp_holes.specs.Places.{Chunk}
use Rattle.pp_objects.specs.Instances.{Instance}
use Rattle.pp_objects.specs.declared.id.ObjectId.{ObjectId}
use Rattle.pp_state.specs.Asking.{is_useless}
use Rattle.pp_state.specs.Bringing.{instance_of}
use Rattle.pp_state.specs.Ends.{AreInOrder, Parts, ended, parts}
use Rattle.pp_state.specs.declared.state.State.{State as Turn}
use Rattle.pp_steps.specs.Evicting.{leaving_chunks, left_memory}
use Rattle.pp_take.specs.GivingUp.{all_given_up}
use Rattle.pp_grown_law.proofs.Bytes.{HasFace, faced_of, held_without_all}
use Rattle.pp_grown_law.specs.Leaving.{LeavesBringNothing, LeavingsBringNothing}
use Rattle.pp_grown_law.specs.Less.{BringsNone, BringsNothing, bare, was}

pub leavings_bring_nothing : LeavingsBringNothing
leavings_bring_nothing p q shelf but = record {
  run = ap (λ (t : Turn). t.run) but.rest;
  kept = λ key k is. is;
  rows = rows;
}
  where
    chunks : q.cache.chunks ≡ (left_memory p).cache.chunks
    chunks = ap (λ (m : Memory). m.chunks) but.cache.rest

    rows : (id : ObjectId) (j : Instance) → instance_of id q.cache.instances ≡ Some j → j.is_retired ≡ false → BringsNone p q shelf id j
    rows id j found row =
        let one : HasFace id j p.cache.instances = faced_of id j p.cache.instances q.cache.instances but.cache.faces found in
        was one.one one.there (ap (λ (i : Instance). i.is_retired) one.same ∙ row) (ap (λ (i : Instance). i.key) one.same) (ap (λ (i : Instance). i.version) one.same)
        (λ o unkept. held_without_all id.slot o (leaving_chunks p) p.cache.chunks (subst (λ (cs : List Chunk). is_in_memory id.slot o cs ≡ true) chunks unkept.held))

-- ---- all that is done behind an event

pub given_stays : (ns : List ℕ) (p : Parts) → (all_given_up ns p).cache ≡ p.cache
unfolding all_given_up
given_stays [] p = refl
given_stays (n ∷ ns) p = by (is_useless p.cache p.seats (entry_of n p.flow)) (given_stays ns (ended n p)) (given_stays ns p)
  where
    by : (b : Bool) → (all_given_up ns (ended n p)).cache ≡ p.cache → (all_given_up ns p).cache ≡ p.cache → (all_given_up ns (elim b as (λ t. Parts) [ true ↦ ended n p | false ↦ p ])).cache ≡ p.cache
    by true one other = one
    by false one other = other

pub leaves_bring_nothing : LeavesBringNothing
leaves_bring_nothing x y log shelf order leaves = record {
  run = runs ∙ between.run ∙ anew_run;
  kept = λ key k is. is;
  rows = λ id j found row. by id j (between.rows id j (ap (λ (m : Memory). instance_of id m.instances) (sym now_cache) ∙ found) row);
}
  where
    between : BringsNothing leaves.anew.state leaves.left.state shelf shelf
    between = leavings_bring_nothing leaves.anew.state leaves.left.state shelf leaves.leaves.is

    anew_run : leaves.anew.state.run ≡ x.desk.state.run
    anew_run = ap (λ (d : Desk). d.state.run) leaves.regains.rest

    anew_cache : leaves.anew.state.cache ≡ x.desk.state.cache
    anew_cache = ap (λ (d : Desk). d.state.cache) leaves.regains.rest

    waiting : flow_numbers leaves.left.state.flow.waiting ≡ flow_numbers x.desk.state.flow.waiting
    waiting = ap (λ (t : Turn). flow_numbers t.flow.waiting) leaves.leaves.is.rest ∙ ap (λ (d : Desk). flow_numbers d.state.flow.waiting) leaves.regains.rest

    now_cache : y.desk.state.cache ≡ leaves.left.state.cache
    now_cache =
        ap (λ (z : Sides). z.parts.cache) (leaves.gives.is (subst (λ (ns : List ℕ). AreInOrder ns) (sym waiting) order))
        ∙ given_stays (flow_numbers leaves.left.state.flow.waiting) (parts leaves.left.state)

    runs : y.desk.state.run ≡ leaves.left.state.run
    runs = ap (λ (d : Desk). d.state.run) leaves.gives.rest

    by : (id : ObjectId) (j : Instance) → BringsNone leaves.anew.state leaves.left.state shelf id j → BringsNone x.desk.state y.desk.state shelf id j
    by id j (was i there row key version bytes) =
        was i (ap (λ (m : Memory). instance_of id m.instances) (sym anew_cache) ∙ there) row key version
        (λ o u. ap (λ (m : Memory). is_in_memory id.slot o m.chunks) (sym anew_cache) ∙ bytes o (record { kept = u.kept; there = u.there; behind = u.behind; held = ap (λ (m : Memory). is_in_memory id.slot o m.chunks) (sym now_cache) ∙ u.held }))
    by id j (bare never) = bare (λ o u. never o (record { kept = u.kept; there = u.there; behind = u.behind; held = ap (λ (m : Memory). is_in_memory id.slot o m.chunks) (sym now_cache) ∙ u.held }))
