-- What is kept on the way to each phase is kept by each phase that is done.
use Rattle.std.proofs.Common.{◌≡◌, refl, true, false, sym, subst, ap, ◌∙◌}
use Rattle.pp_law.specs.Opening.{is_at, is_same_phase}
use Rattle.pp_law.specs.Phases.{behind, come_to, next, phases}
use Rattle.pp_law.specs.State.{State, Phase, Before, IsWoken, IsConfigured, IsRooted, IsListed, IsListening, IsStuck, Awaiting, Handling, Evicting, Keeping, Deciding, Following, Connecting, DecidingAgain}
use Rattle.pp_obeys.proofs.Come.{IsDone, come-stopped, come_to-next, next-phase, onward}
use Rattle.pp_laws_turn.proofs.Lifts.{Stays}

-- the next phase is the one that it comes to
comes_next : (p : Phase) (s : State) → IsDone s → onward s.phase ≡ p → is_same_phase p p ≡ true → is_at p s ≡ false → come_to p s ≡ next s
unfolding come_to
comes_next p s d is same isnt = come_to-next p s d isnt ∙ come-stopped (is_at p) phases (next s) (ap (is_same_phase p) (next-phase s ∙ is) ∙ same)

pub by_coming : (P : State → Type 0) → ((p : Phase) (s : State) → P s → P (come_to p s)) → Stays P
unfolding next
by_coming P comes s done h = by s.phase refl
  where
    onto : (p q : Phase) → s.phase ≡ p → onward p ≡ q → is_same_phase q q ≡ true → is_same_phase q p ≡ false → (p ≡ DecidingAgain → ⊥) → P (next s)
    onto p q is then same apart early = subst P (comes_next q s (record { done = done; early = λ e. early (sym is ∙ e) }) (ap onward is ∙ then) same (ap (is_same_phase q) is ∙ apart)) (comes q s h)

    there : (p : Phase) → s.phase ≡ p → P (next s) → P (behind p s)
    there p is now = subst (λ (q : Phase). P (behind q s)) is now

    by : (p : Phase) → s.phase ≡ p → P (behind p s)
    by Before is = h
    by IsWoken is = h
    by IsConfigured is = h
    by IsRooted is = h
    by IsListed is = h
    by IsListening is = h
    by IsStuck is = h
    by Awaiting is = h
    by Handling is = there Handling is (onto Handling Evicting is refl refl refl (λ e. cc e))
    by Evicting is = there Evicting is (onto Evicting Keeping is refl refl refl (λ e. cc e))
    by Keeping is = there Keeping is (onto Keeping Deciding is refl refl refl (λ e. cc e))
    by Deciding is = there Deciding is (onto Deciding Following is refl refl refl (λ e. cc e))
    by Following is = there Following is (onto Following Connecting is refl refl refl (λ e. cc e))
    by Connecting is = there Connecting is (onto Connecting DecidingAgain is refl refl refl (λ e. cc e))
    by DecidingAgain is = h
