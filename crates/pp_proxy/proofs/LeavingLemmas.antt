-- What leaves memory behind the event, by what each step says.
use Rattle.std.proofs.Common.{◌≡◌, ◌≤◌, ap, refl, ℕ, List, [], ◌∷◌, ◌++◌, Option, Some, None}
use Rattle.std.specs.Prelude.{count_by, option_map}
use Rattle.std.specs.List.{cons_option}
use Rattle.pp_desk.specs.declared.desk.Desk.{Desk}
use Rattle.pp_flow.specs.Changes.{numbers as flow_numbers}
use Rattle.pp_links.proofs.FailureLemmas.{counted_none, none_in_both}
use Rattle.pp_links.specs.Failures.{fails}
use Rattle.pp_objects.specs.Instances.{Instance, in_slot}
use Rattle.pp_proxy.proofs.StepsLemmas.{given_up}
use Rattle.pp_proxy.specs.Leaving.{Leaves, Regains}
use Rattle.pp_proxy.specs.Moving.{LeadsOn, Moving, with_state}
use Rattle.pp_state.specs.Bodies.{IsButForCells}
use Rattle.pp_state.specs.Ends.{AreInOrder, KeepsRest, all_regained, numbers_of, parts}
use Rattle.pp_state.specs.declared.state.State.{State}
use Rattle.pp_steps.specs.Evicting.{evicted_notes, forgotten_note, forgotten_notes, leaving_chunks, leaving_notes, left_memory}
use Rattle.pp_take.specs.GivingUp.{all_given_up}
use Rattle.pp_world.specs.Log.{AppendsAll, Log}
use Rattle.pp_world.specs.declared.happening.Happening.TheVariants.{Noted}
use Rattle.pp_world.specs.declared.note.Remark.TheVariants.{Evicted}

-- ---- no note is a failure

forgotten_fails : (keys : List (List ℕ)) → count_by fails (forgotten_notes keys) ≡ 0
forgotten_fails [] = refl
forgotten_fails (key ∷ keys) = none_in_both (forgotten_note key ∷ []) (forgotten_notes keys) refl (forgotten_fails keys)

evicted_fails : (is : List Instance) (places : List (ℕ × ℕ)) → count_by fails (evicted_notes is places) ≡ 0
evicted_fails is [] = refl
evicted_fails is (at ∷ places) = by (in_slot at.0 is) (evicted_fails is places)
  where
    by : (o : Option Instance) → count_by fails (evicted_notes is places) ≡ 0 → count_by fails (cons_option (option_map (λ i. Noted (Evicted i.key i.version.tag i.version.length at.1)) o) (evicted_notes is places)) ≡ 0
    by None rest = rest
    by (Some i) rest = none_in_both (Noted (Evicted i.key i.version.tag i.version.length at.1) ∷ []) (evicted_notes is places) refl rest

pub leaving_fails : (s : State) → count_by fails (leaving_notes s) ≡ 0
leaving_fails s =
    none_in_both (forgotten_notes s.forgotten ++ forgotten_notes s.refused) (evicted_notes s.cache.instances (leaving_chunks s))
    (none_in_both (forgotten_notes s.forgotten) (forgotten_notes s.refused) (forgotten_fails s.forgotten) (forgotten_fails s.refused))
    (evicted_fails s.cache.instances (leaving_chunks s))

-- ---- the steps

pub regains : (d : Desk) (s : State) → s.seats.items ≡ all_regained d.state.cache d.state.awake.items d.state.seats.items → numbers_of s.seats.items ≡ numbers_of d.state.seats.items → record s { seats = d.state.seats } ≡ d.state
    → Regains d (record d { state = s })
regains d s is numbers rest = record { is = is; numbers = numbers; rest = ap (λ (t : State). record d { state = t }) rest }

-- what leaves memory is no client
pub left_numbers : (s t : State) → IsButForCells (left_memory s) t → numbers_of t.seats.items ≡ numbers_of s.seats.items
left_numbers s t left = ap (λ (u : State). numbers_of u.seats.items) left.rest

pub leaves_on : (x : Moving) (anew left given : State) (top : ℕ) (old new : Option Log) (before now : ℕ) → top ≡ x.top → Regains x.desk (record x.desk { state = anew }) → IsButForCells (left_memory anew) left → AppendsAll old new (λ l. leaving_notes anew) → before ≤ now
    → (AreInOrder (flow_numbers left.flow.waiting) → parts given ≡ all_given_up (flow_numbers left.flow.waiting) (parts left)) → numbers_of given.seats.items ≡ numbers_of left.seats.items → given.is_astray ≡ left.is_astray → KeepsRest left given
    → LeadsOn Leaves x (record (with_state given x) { top = top }) old new before now
leaves_on x anew left given top old new before now same again leaves told more is numbers astray rest = record {
  added = leaving_notes anew;
  is = record {
    anew = record x.desk { state = anew };
    left = record x.desk { state = left };
    log_is = refl;
    regains = again;
    leaves = record { is = leaves; rest = refl };
    gives = given_up (record x.desk { state = left }) given is numbers astray rest;
    links = refl;
    top = same;
  };
  told = told;
  counted = counted_none (leaving_notes anew) (leaving_fails anew) more;
}
