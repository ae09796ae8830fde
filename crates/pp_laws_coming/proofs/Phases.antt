-- Each phase that is done keeps it, and so does the way to a phase.
use Rattle.std.proofs.Common.{◌≡◌, refl, Bool, true, false, not, List, [], ◌∷◌, sym, subst, ap}
use Rattle.pp_law.specs.Opening.{is_at}
use Rattle.pp_law.specs.Phases.{behind, come, come_to, come_to_decide, decides, deciding, ending, in_phase, is_done, next, phases}
use Rattle.pp_law.specs.State.{State, Phase, Before, IsWoken, IsConfigured, IsRooted, IsListed, IsListening, IsStuck, Awaiting, Handling, Evicting, Keeping, Deciding, Following, Connecting, DecidingAgain}
use Rattle.pp_obeys.proofs.Come.{next-phase, onward, same_phase}
use Rattle.pp_laws_turn.proofs.Cases.{when}
use Rattle.pp_laws_turn.proofs.View.{Holds, View, facts_of, holds, is_late}
use Rattle.pp_laws_coming.proofs.Steps.{drop_unseen-comes, placing-comes}
use Rattle.pp_laws_coming.proofs.Begun.{begin_replies-comes}
use Rattle.pp_laws_coming.proofs.Facts.{Coming, Early}
use Rattle.pp_laws_coming.proofs.Filled.{fill-comes, give_up_asks-comes}
use Rattle.pp_laws_coming.proofs.Given.{give_up-late, sooner}

-- ---- as it is in the phase that is

abbrev pub AtPhase : View → Type 0
AtPhase v = Coming (is_late v.phase) v

pub at_so : (late : Bool) (s : State) → is_late s.phase ≡ late → Holds (Coming late) s → Holds AtPhase s
at_so late s is h = holds (facts_of (subst (λ b. Holds (Coming b) s) (sym is) h))

pub at_of : (s : State) → Holds AtPhase s → Holds (Coming (is_late s.phase)) s
at_of s h = holds (facts_of h)

pub early_of : (s : State) → Holds AtPhase s → Holds Early s
early_of s h = holds (sooner s.clients s.exchanges s.next_exchange s.instances s.next_instance (facts_of h))

-- where the phase stays
pub stays_at : (s t : State) → t.phase ≡ s.phase → ((late : Bool) → Holds (Coming late) s → Holds (Coming late) t) → Holds AtPhase s → Holds AtPhase t
stays_at s t phase comes h = at_so (is_late s.phase) t (ap is_late phase) (comes (is_late s.phase) (at_of s h))

-- ---- the phases

in_phase-comes : {late : Bool} → (p : Phase) (s : State) → Holds (Coming late) s → Holds (Coming late) (in_phase p s)
in_phase-comes p s h = holds (facts_of h)

behind-comes : (phase : Phase) (s : State) → Holds (Coming (is_late phase)) s → Holds (Coming (is_late (onward phase))) (behind phase s)
behind-comes Before s h = h
behind-comes IsWoken s h = h
behind-comes IsConfigured s h = h
behind-comes IsRooted s h = h
behind-comes IsListed s h = h
behind-comes IsListening s h = h
behind-comes IsStuck s h = h
behind-comes Awaiting s h = h
behind-comes Handling s h = in_phase-comes Evicting s h
behind-comes Evicting s h = give_up-late _ (in_phase-comes Keeping s h)
behind-comes Keeping s h = in_phase-comes Deciding s h
behind-comes Deciding s h = in_phase-comes Following s h
behind-comes Following s h = fill-comes _ (give_up_asks-comes _ (drop_unseen-comes _ (in_phase-comes Connecting s h)))
behind-comes Connecting s h = placing-comes _ (in_phase-comes DecidingAgain s h)
behind-comes DecidingAgain s h = h

next_came : (s : State) → Holds (Coming (is_late s.phase)) s → Holds (Coming (is_late (onward s.phase))) (next s)
unfolding next
next_came s h = behind-comes s.phase s h

pub next-comes : (s : State) → Holds AtPhase s → Holds AtPhase (next s)
next-comes s h = at_so (is_late (onward s.phase)) (next s) (ap is_late (next-phase s)) (next_came s (at_of s h))

come-comes : (stops : State → Bool) (ps : List Phase) (s : State) → Holds AtPhase s → Holds AtPhase (come stops ps s)
unfolding come
come-comes stops [] s h = h
come-comes stops (p ∷ ps) s h = come-comes stops ps _ (when (is_at p s) (when (stops s) h (when (is_done s) (next-comes s h) h)) h)

pub come_to-comes : (phase : Phase) (s : State) → Holds AtPhase s → Holds AtPhase (come_to phase s)
unfolding come_to
come_to-comes phase s h = come-comes (is_at phase) phases s h

pub come_to_decide-comes : (s : State) → Holds AtPhase s → Holds AtPhase (come_to_decide s)
unfolding come_to_decide
come_to_decide-comes s h = come-comes decides phases s h

at_phase : (p : Phase) (s : State) → is_at p s ≡ true → s.phase ≡ p
at_phase p s at = sym (same_phase p s.phase at)

decides_late : (s : State) → decides s ≡ true → is_late s.phase ≡ true
decides_late s is = by (is_at Deciding s) refl is
  where
    by : (t : Bool) → is_at Deciding s ≡ t → (elim t as (λ c. Bool) [ true ↦ not (is_done s) | false ↦ is_at DecidingAgain s ]) ≡ true → is_late s.phase ≡ true
    by true at on = ap is_late (at_phase Deciding s at)
    by false at on = ap is_late (at_phase DecidingAgain s on)

pub deciding-comes : (s : State) → decides (come_to_decide s) ≡ true → Holds AtPhase s → Holds (Coming true) (deciding s)
unfolding deciding
deciding-comes s on h =
    let t : Holds AtPhase (come_to_decide s) = come_to_decide-comes s h in
    in_phase-comes Deciding (come_to_decide s) (subst (λ b. Holds (Coming b) (come_to_decide s)) (decides_late (come_to_decide s) on) (at_of (come_to_decide s) t))

pub ending-comes : (s : State) → Holds AtPhase s → Holds Early (ending s)
unfolding ending
ending-comes s h = begin_replies-comes _ (early_of _ (come_to-comes DecidingAgain s h))
