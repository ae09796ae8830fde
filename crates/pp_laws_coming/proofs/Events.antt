-- Events, reads and writes keep it.
use Rattle.std.proofs.Common.{◌≡◌, ◌⊎◌, refl, ℕ, ◌<◌, ◌≤◌, Bool, true, false, Some, None, inl, inr, sym, subst, ap, ◌∙◌, arith}
use Rattle.pp_law.specs.After.{event, gone, new_client, opened, owing, paid, reached, said}
use Rattle.pp_law.specs.Connections.{client, conn}
use Rattle.pp_law.specs.State.{State, Owed, Client, Exchange}
use Rattle.pp_laws.specs.Runs.{IsIn}
use Rattle.pp_laws.proofs.Lists.{in_push}
use Rattle.pp_laws.proofs.Sound.{Since, Sound, facts_of as sound_facts}
use Rattle.pp_laws_turn.proofs.Cases.{each_of}
use Rattle.pp_laws_turn.proofs.Clients.{use_said-keeps}
use Rattle.pp_laws_turn.proofs.Kept.{Turn}
use Rattle.pp_laws_turn.proofs.View.{Holds, facts_of, holds, is_late, view}
use Rattle.pp_laws_coming.proofs.Phases.{AtPhase, at_so, stays_at}
use Rattle.pp_laws_coming.proofs.Pieces.{ended-comes}
use Rattle.pp_laws_coming.proofs.Steps.{touch-comes}
use Rattle.pp_law.specs.Replies.{regained}
use Rattle.pp_laws_coming.proofs.Ended.{end_replies-comes, regained-comes}
use Rattle.pp_laws_coming.proofs.Facts.{Early, IsTold, Settled}
use Rattle.pp_laws_coming.proofs.Lost.{on_conn-comes}
use Rattle.pp_laws_coming.proofs.Said.{say-comes}
use Rattle.pp_laws_coming.proofs.Stays.{unsourced}

-- ---- events

regained-at : (s : State) → Holds AtPhase s → Holds AtPhase (regained s)
unfolding regained
regained-at s h = stays_at s (regained s) refl (λ late ht. regained-comes s ht) h

pub event-comes : (s : State) → Holds Early s → Holds AtPhase (event s)
unfolding event
event-comes s h = regained-at _ (holds (facts_of h))

pub paid-comes : (s : State) → Holds AtPhase s → Holds AtPhase (paid s)
unfolding paid
paid-comes s h = regained-at _ (holds (facts_of h))

-- what is owed is read or written early
pub owed-comes : (s t : State) → is_late s.phase ≡ false → t.phase ≡ s.phase → Holds Early t → Holds AtPhase (paid t)
owed-comes s t early phase h = paid-comes t (at_so false t (ap is_late phase ∙ early) h)

-- whoever is new asked nothing yet
pub opened-comes : {b : Since} (n : ℕ) (s : State) → s.top < n → Sound b s → Holds Turn s → Holds Early s → Holds Early (opened n s)
unfolding opened
opened-comes n s above was turn h = holds (record {
  callers = λ c d i j eq. one c d (in_push c s.clients new i) (in_push d s.clients new j) eq;
  apart = f.apart;
  given = f.given;
  one = f.one;
  fresh = f.fresh;
  headed = f.headed;
  placeless = f.placeless;
  rowed = f.rowed;
  settled = λ c i. settled_by c (in_push c s.clients new i);
  told = λ e m c i j asks is off. told_by e m c i (in_push c s.clients new j) asks is off;
})
  where
    new : Client
    new = new_client n s.clock

    f : Early (view s)
    f = facts_of h

    settled_by : (c : Client) → IsIn c s.clients ⊎ (c ≡ new) → Settled s.instances s.next_instance c
    settled_by c (inl i) = f.settled c i
    settled_by c (inr eq) = subst (λ (x : Client). Settled s.instances s.next_instance x) (sym eq) (unsourced s.instances s.next_instance new refl (λ off. refl))

    lower : (c : Client) → IsIn c s.clients → c.number ≡ n → ⊥
    lower c i is = let le : c.number ≤ s.top = (sound_facts was).callers.given c i in omega arith

    one : (c d : Client) → IsIn c s.clients ⊎ (c ≡ new) → IsIn d s.clients ⊎ (d ≡ new) → c.number ≡ d.number → c ≡ d
    one c d (inl i) (inl j) eq = f.callers c d i j eq
    one c d (inl i) (inr is) eq = absurd (lower c i (eq ∙ ap (λ (x : Client). x.number) is))
    one c d (inr is) (inl j) eq = absurd (lower d j (sym eq ∙ ap (λ (x : Client). x.number) is))
    one c d (inr is) (inr too) eq = is ∙ sym too

    told_by : (e : Exchange) (m : ℕ) (c : Client) → IsIn e s.exchanges → IsIn c s.clients ⊎ (c ≡ new) → e.asker ≡ Some m → c.number ≡ m → (None ≡ Some m → ⊥) → IsTold s.instances e c
    told_by e m c i (inl j) asks is off = f.told e m c i j asks is off
    told_by e m c i (inr eq) asks is off =
        let g = (facts_of turn).goes e m i asks off in
        absurd (lower g.client g.there (g.number ∙ sym is ∙ ap (λ (x : Client). x.number) eq))

pub reached-comes : (n : ℕ) (s : State) → Holds Early s → Holds Early (reached n s)
unfolding reached
reached-comes n s h = touch-comes n _ (on_conn-comes n (λ k. record k { is_reached = true }) s h)

pub owing-comes : (owed : Owed) (n : ℕ) (s : State) → Holds Early s → Holds Early (owing owed n s)
unfolding owing
owing-comes owed n s h = holds (facts_of (touch-comes n s h))

pub said-comes : (c n : ℕ) (s : State) → Holds Early s → Holds Early (said c n s)
unfolding said
said-comes c n s h = each_of (client s c) h (λ x. end_replies-comes _ (say-comes c n _ (use_said-keeps n x s h)))

pub gone-comes : (is_clean : Bool) (n : ℕ) (s : State) → Holds Early s → Holds Early (gone is_clean n s)
unfolding gone
gone-comes is_clean n s h = each_of (conn s n) h (λ k. end_replies-comes _ (ended-comes is_clean k s h))
