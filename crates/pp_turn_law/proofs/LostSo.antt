-- From a chunk that could not be read back, over the disk, to where decisions come next.
use Rattle.std.proofs.Common.{◌≡◌, ◌≤◌, refl, sym, subst, ap, ◌∙◌, ℕ, ◌+◌, Bool, true, false, List, [], ◌++◌, append-nil, Some, arith}
use Rattle.std.specs.Prelude.{count_by}
use Rattle.pp_desk.specs.declared.desk.Desk.{Desk}
use Rattle.pp_events_law.specs.Losses.{at_disk}
use Rattle.pp_evicting_law.proofs.Leaving.{notes_are}
use Rattle.pp_evicting_law.specs.Evicting.{IsDoneWithEvent, left_behind}
use Rattle.pp_grown_law.specs.Grown.{HasNothingToKeep}
use Rattle.pp_joints_law.proofs.Done.{handled_done}
use Rattle.pp_law.specs.Lists.{Bytes}
use Rattle.pp_law.specs.Replies.{regained}
use Rattle.pp_law.specs.State.{State}
use Rattle.pp_objects.specs.Instances.{Instance}
use Rattle.pp_obeys.specs.Failures.{fails}
use Rattle.pp_obeys.specs.Obeys.{Life, Obeys}
use Rattle.pp_proxy.specs.Leaving.{Leaves}
use Rattle.pp_proxy.specs.Moving.{Moving, Turning}
use Rattle.pp_rounds_law.specs.Coming.{ComesTo}
use Rattle.pp_steps.specs.Evicting.{evicted_notes, forgotten_notes}
use Rattle.pp_turn_law.proofs.Kept.{StandsToLeave, left_to_decide, nothing_kept}
use Rattle.pp_turn_law.proofs.LostLaw.{at_disk_then}
use Rattle.pp_turn_law.specs.Called.{IsLostOn, lost_log}
use Rattle.pp_turn_law.specs.Kept.{LeavesAndKeeps}
use Rattle.pp_turn_law.specs.Lost.{LostOnesGoToDecide}
use Rattle.pp_world.specs.Log.{Log}
use Rattle.pp_world.specs.declared.event.Wants.{Wants}

none_noted : (is : List Instance) (places : List (ℕ × ℕ)) (forgotten refused : List Bytes) (evicting : Bool) → forgotten ≡ [] → refused ≡ [] → evicting ≡ false
    → forgotten_notes forgotten ++ forgotten_notes refused ++ evicted_notes is (elim evicting as (λ t. List (ℕ × ℕ)) [ true ↦ places | false ↦ [] ]) ≡ []
none_noted is places forgotten refused evicting one two off =
    ap (λ (keys : List Bytes). forgotten_notes keys ++ forgotten_notes refused ++ evicted_notes is (elim evicting as (λ t. List (ℕ × ℕ)) [ true ↦ places | false ↦ [] ])) one
    ∙ ap (λ (keys : List Bytes). forgotten_notes [] ++ forgotten_notes keys ++ evicted_notes is (elim evicting as (λ t. List (ℕ × ℕ)) [ true ↦ places | false ↦ [] ])) two
    ∙ ap (λ (b : Bool). forgotten_notes [] ++ forgotten_notes [] ++ evicted_notes is (elim b as (λ t. List (ℕ × ℕ)) [ true ↦ places | false ↦ [] ])) off

module _ (life : Life) (budget : ℕ) (log : Log) (w : Wants) (id : ℕ) (x : Turning) (lost : IsLostOn life budget log w id x) where
  abbrev h : State
  h = lost.handled.handled

  abbrev t : State
  t = at_disk lost.then

  abbrev before : Log
  before = lost_log log w id lost.key

  done : IsDoneWithEvent lost.number x.moving h
  done = handled_done lost.number x.moving lost.then lost.handled lost.ready

  -- the law is there already
  is_there : left_behind (regained h) ≡ t
  is_there = ap (λ (s : State). left_behind s) (sym lost.handled.anew) ∙ at_disk_then lost.then lost.none

  same_forgotten : h.forgotten ≡ lost.then.forgotten
  unfolding regained
  same_forgotten = sym (ap (λ (s : State). s.forgotten) lost.handled.anew)

  same_evicting : (regained h).is_evicting ≡ lost.then.is_evicting
  same_evicting = sym (ap (λ (s : State). s.is_evicting) lost.handled.anew)

  -- so nothing is noted
  nothing : (z : Moving) (added : Log) → Leaves x.moving added z → added ≡ []
  nothing z added leaves =
      sym (notes_are lost.number x.moving z added h done lost.may leaves)
      ∙ none_noted _ _ _ _ _ (ap (λ (d : Desk). d.state.forgotten) leaves.regains.rest ∙ lost.may.forgotten ∙ same_forgotten ∙ lost.none.forgotten) (ap (λ (d : Desk). d.state.refused) leaves.regains.rest ∙ done.turn.steps.refused) (same_evicting ∙ lost.none.evicting)

  still : ComesTo (life.terms budget) before [] t t
  still = record { obeys = subst (λ (l : Log). Obeys (life.terms budget) t l) (sym (append-nil before)) lost.obeys; failures = let none : count_by fails [] ≡ 0 = refl in omega (arith, none); term = refl }

  pub to_leave : StandsToLeave life budget before lost.number x h t
  to_leave = record {
    told = lost.told;
    allows = lost.allows;
    done = done;
    may = lost.may;
    carried = lost.carried;
    supplied = lost.supplied;
    comes = λ z added leaves left. subst (λ (s : State). ComesTo (life.terms budget) before added t s) (sym is_there) (subst (λ (hs : Log). ComesTo (life.terms budget) before hs t t) (sym (nothing z added leaves)) still);
  }

pub lost_go_to_decide : LostOnesGoToDecide
lost_go_to_decide life budget log after w id x y lost does told few =
    left_to_decide life budget (lost_log log w id lost.key) after lost.number x y lost.handled.handled (at_disk lost.then) (to_leave life budget log w id x lost) does told few

-- and nothing is left to be kept
pub lost_leave : (life : Life) (budget : ℕ) (log after : Log) (w : Wants) (id : ℕ) (x y : Turning) → (lost : IsLostOn life budget log w id x) → LeavesAndKeeps x y → y.log ≡ Some after → y.faults ≤ budget + life.base → y.moving.desk.state.is_astray ≡ false
    → HasNothingToKeep y.moving.desk.state y.shelf
lost_leave life budget log after w id x y lost does told few straight =
    nothing_kept life budget (lost_log log w id lost.key) after lost.number x y lost.handled.handled (at_disk lost.then) (to_leave life budget log w id x lost) does told few straight
