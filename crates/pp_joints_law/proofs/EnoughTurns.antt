-- From phase to phase: where chunks left memory behind an event as few are used as a turn leaves.
use Rattle.std.proofs.Common.{◌≡◌, ◌⊎◌, inl, inr, refl, sym, subst, ap, ◌∙◌, ℕ, ◌-◌, ◌<◌, ◌≤◌, min, Bool, true, false, not, ◌&&◌, List, [], ◌∷◌, length, is_some, Option, Some, None, le_trans, arith}
use Rattle.std.proofs.lemmas.Bool.Decides.{nat_tests}
use Rattle.pp_text.specs.Bytes.{is_empty}
use Rattle.pp_law.specs.Chunks.{floor, victim}
use Rattle.pp_law.specs.Opening.{is_at}
use Rattle.pp_law.specs.Phases.{behind, come, come_to, come_to_decide, decides, due_victim, in_phase, is_done, is_done_with, next, phases}
use Rattle.pp_law.specs.State.{State, Phase, Before, IsWoken, IsConfigured, IsRooted, IsListed, IsListening, IsStuck, Awaiting, Handling, Evicting, Keeping, Deciding, Following, Connecting, DecidingAgain}
use Rattle.pp_law.specs.Table.{pins}
use Rattle.pp_laws_bounds.specs.Bounds.{HasFewPins}
use Rattle.pp_laws_pool.proofs.ChunkLists.{AreApart, no_victim}
use Rattle.pp_laws_pool.proofs.PoolTurns.{is_busy}
use Rattle.pp_laws_pool.proofs.View.{Holds, facts_of, holds}
use Rattle.pp_laws_pool.proofs.WalkClients.{fill-keeps, give_up_asks-keeps}
use Rattle.pp_laws_pool.proofs.WalkSteps.{drop_unseen-keeps, placing-keeps}
use Rattle.pp_joints_law.proofs.Enough.{Enough, IsEnough, enough_begins, enough_places, enough_walk}

-- ---- in a phase

pub record InPhase (s : State) : Type 0 where
  pub phase : Phase
  pub held : Holds (Enough phase) s

-- and what chunks may leave by, while they may
pub record Turns (s : State) : Type 0 where
  pub now : InPhase s
  pub pins : is_busy s.phase ≡ true → HasFewPins s
  pub apart : is_busy s.phase ≡ true → AreApart s.chunks

pub at_phase : {s : State} → (i : InPhase s) → s.phase ≡ i.phase
at_phase i = (facts_of i.held).0

pub known_at : (p : Phase) (s : State) → s.phase ≡ p → InPhase s → Holds (Enough p) s
known_at p s is i = subst (λ (q : Phase). Holds (Enough q) s) (sym (at_phase i) ∙ is) i.held

-- where it is none of those as few are used
pub enough_now : (p : Phase) (s : State) → is_busy p ≡ false → Holds (Enough p) s → IsEnough s.settings (length s.chunks)
enough_now p s calmly h = by (facts_of h).1.1
  where
    by : ((is_busy p ≡ true) × (s.is_evicting ≡ true)) ⊎ IsEnough s.settings (length s.chunks) → IsEnough s.settings (length s.chunks)
    by (inl begun) = let both : true ≡ false = sym begun.0 ∙ calmly in absurd (cc both)
    by (inr few) = few

-- in another phase
pub to_busy : (p q : Phase) (s : State) → is_busy q ≡ true → Holds (Enough p) s → Holds (Enough q) (in_phase q s)
to_busy p q s busy h = holds (refl, ((facts_of h).1.0, by (facts_of h).1.1))
  where
    by : ((is_busy p ≡ true) × (s.is_evicting ≡ true)) ⊎ IsEnough s.settings (length s.chunks) → ((is_busy q ≡ true) × (s.is_evicting ≡ true)) ⊎ IsEnough s.settings (length s.chunks)
    by (inl begun) = inl (busy, begun.1)
    by (inr few) = inr few

pub to_any : (p q : Phase) (s : State) → IsEnough s.settings (length s.chunks) → Holds (Enough p) s → Holds (Enough q) (in_phase q s)
to_any p q s few h = holds (refl, ((facts_of h).1.0, inr few))

pub to_calm : (p q : Phase) (s : State) → is_busy p ≡ false → Holds (Enough p) s → Holds (Enough q) (in_phase q s)
to_calm p q s calmly h = to_any p q s (enough_now p s calmly h) h

-- ---- chunks left

none_due : (t : Bool) (o : Option (ℕ × ℕ)) → (t && not (is_some o)) ≡ true → o ≡ None
none_due true None is = refl
none_due true (Some p) is = absurd (cc is)
none_due false o is = absurd (cc is)

-- fewer than the trigger says, where all are pinned
pinned_few : (high critical n : ℕ) → 512 ≤ high → 512 ≤ critical → n ≤ 320 → n < min high (critical - 31)
pinned_few high critical n one two few = grind (arith, nat_tests)

left_few : (s : State) → HasFewPins s → AreApart s.chunks → due_victim s ≡ None → Holds (Enough Evicting) s → IsEnough s.settings (length s.chunks)
left_few s few_pins apart none h = by (facts_of h).1.1
  where
    at_floor : (length s.chunks ≤ floor s) ⊎ (length s.chunks ≤ length (pins s)) → IsEnough s.settings (length s.chunks)
    at_floor (inl le) = inr le
    at_floor (inr le) = inl (pinned_few s.settings.high s.settings.critical (length s.chunks) (facts_of h).1.0.0 (facts_of h).1.0.1 (le_trans le few_pins))

    going : (t : Bool) → t ≡ true → (elim t as (λ x. Option (ℕ × ℕ)) [ true ↦ victim (pins s) s | false ↦ None ]) ≡ None → IsEnough s.settings (length s.chunks)
    going true at gone = at_floor (no_victim (pins s) (floor s) s.chunks apart gone)
    going false at gone = absurd (cc at)

    by : ((is_busy Evicting ≡ true) × (s.is_evicting ≡ true)) ⊎ IsEnough s.settings (length s.chunks) → IsEnough s.settings (length s.chunks)
    by (inl begun) = going s.is_evicting begun.1 none
    by (inr few) = few

-- ---- a phase that is done brings the next

calm_turns : (p : Phase) (s : State) → is_busy p ≡ false → Holds (Enough p) s → Turns s
calm_turns p s calmly h = record {
  now = record { phase = p; held = h };
  pins = λ busy. let both : true ≡ false = sym busy ∙ ap is_busy (facts_of h).0 ∙ calmly in absurd (cc both);
  apart = λ busy. let both : true ≡ false = sym busy ∙ ap is_busy (facts_of h).0 ∙ calmly in absurd (cc both);
}

pub next_turns : (s : State) → is_done s ≡ true → Turns s → Turns (next s)
unfolding next
next_turns s done turns = by s.phase refl done
  where
    by : (p : Phase) → s.phase ≡ p → is_done_with p s ≡ true → Turns (behind p s)
    by Before is d = turns
    by IsWoken is d = turns
    by IsConfigured is d = turns
    by IsRooted is d = turns
    by IsListed is d = turns
    by IsListening is d = turns
    by IsStuck is d = turns
    by Awaiting is d = turns
    by DecidingAgain is d = turns
    by Handling is d = record {
      now = record { phase = Evicting; held = to_busy Handling Evicting s refl (known_at Handling s is turns.now) };
      pins = λ busy. turns.pins (ap is_busy is);
      apart = λ busy. turns.apart (ap is_busy is);
    }
    by Evicting is d =
        let h : Holds (Enough Evicting) s = known_at Evicting s is turns.now in
        let few : IsEnough s.settings (length s.chunks) = left_few s (turns.pins (ap is_busy is)) (turns.apart (ap is_busy is)) (none_due (is_empty s.forgotten) (due_victim s) d) h in
        calm_turns Keeping _ refl (give_up_asks-keeps (enough_walk Keeping) _ (to_any Evicting Keeping s few h))
    by Keeping is d = calm_turns Deciding _ refl (to_calm Keeping Deciding s refl (known_at Keeping s is turns.now))
    by Deciding is d = calm_turns Following _ refl (to_calm Deciding Following s refl (known_at Deciding s is turns.now))
    by Following is d =
        calm_turns Connecting _ refl
        (fill-keeps (enough_walk Connecting) (enough_begins Connecting) _ (give_up_asks-keeps (enough_walk Connecting) _ (drop_unseen-keeps (enough_walk Connecting) _ (to_calm Following Connecting s refl (known_at Following s is turns.now)))))
    by Connecting is d = calm_turns DecidingAgain _ refl (placing-keeps (enough_places DecidingAgain) _ (to_calm Connecting DecidingAgain s refl (known_at Connecting s is turns.now)))

-- ---- the state in which a happening comes

turns_when : (t : Bool) {x y : State} → (t ≡ true → Turns x) → (t ≡ false → Turns y) → Turns (elim t as (λ c. State) [ true ↦ x | false ↦ y ])
turns_when true hx hy = hx refl
turns_when false hx hy = hy refl

come_turns : (stops : State → Bool) (ps : List Phase) (s : State) → Turns s → Turns (come stops ps s)
unfolding come
come_turns stops [] s turns = turns
come_turns stops (p ∷ ps) s turns =
    come_turns stops ps _ (turns_when (is_at p s) (λ here. turns_when (stops s) (λ yes. turns) (λ isnt. turns_when (is_done s) (λ done. next_turns s done turns) (λ isnt. turns))) (λ away. turns))

pub come_to_turns : (phase : Phase) (s : State) → Turns s → Turns (come_to phase s)
unfolding come_to
come_to_turns phase s turns = come_turns (is_at phase) phases s turns

pub come_to_decide_turns : (s : State) → Turns s → Turns (come_to_decide s)
unfolding come_to_decide
come_to_decide_turns s turns = come_turns decides phases s turns
