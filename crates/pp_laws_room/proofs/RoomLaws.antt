-- The law: how far below the critical mark the chunks are.
use Rattle.std.proofs.Common.{◌≡◌, ◌⊎◌, refl, ℕ, ◌+◌, ◌-◌, ◌≤◌, true, false, ◌||◌, List, [], ◌∷◌, ◌++◌, length, inl, inr, sym, subst, ap, ◌∙◌, le_refl, zero-le, arith}
use Rattle.std.proofs.lemmas.List.{append-nil}
use Rattle.pp_conf.specs.Conf.{Settings, defaults}
use Rattle.pp_world.specs.Log.{Log}
use Rattle.pp_law.proofs.Prefixes.{front_from}
use Rattle.pp_law.specs.Lawful.{Lawful}
use Rattle.pp_law.specs.Opening.{is_same_phase}
use Rattle.pp_law.specs.Phases.{is_done, is_done_with, is_free, next}
use Rattle.pp_law.specs.State.{State, Term, Free, Phase, Before, IsWoken, IsConfigured, IsRooted, IsListed, IsListening, IsStuck, Awaiting, Handling, Evicting, Keeping, Deciding, Following, Connecting, DecidingAgain, start}
use Rattle.pp_laws.specs.Runs.{state_after}
use Rattle.pp_laws.proofs.Happenings.{after_all-sound}
use Rattle.pp_laws.proofs.Laws.{start-sound}
use Rattle.pp_laws_bounds.proofs.Happenings.{from_now}
use Rattle.pp_laws_bounds.proofs.Laws.{short_lines}
use Rattle.pp_laws_bounds.proofs.SmallLaws.{few_pins}
use Rattle.pp_laws_pool.proofs.Along.{along, Steps}
use Rattle.pp_laws_pool.proofs.PoolFacts.{Pool, calm}
use Rattle.pp_laws_pool.proofs.PoolHappenings.{after_inv}
use Rattle.pp_laws_pool.proofs.PoolTurns.{Inv, Loaded, Quiet, Went, Where, come_to-went, is_busy, rests}
use Rattle.pp_laws_pool.proofs.View.{facts_of, holds, view}
use Rattle.pp_laws_turn.proofs.Lifts.{Stays, obeying}
use Rattle.pp_obeys.specs.Obeys.{Obeys}
use Rattle.pp_laws_room.proofs.Coming.{by_coming}
use Rattle.pp_laws_room.specs.Room.{HasRoom, TurnsLeaveRoom}

-- ---- along a log

first_inv : (terms : List Term) → Inv (start terms)
first_inv terms = inl (rests defaults Before 0 (start terms) (omega arith) zero-le (λ is. absurd (cc is)) (holds (record { set = refl; at = refl; owes = refl; few = le_refl 0; apart = tt; near = inr zero-le; going = λ k x i. absurd i; unread = λ k i. absurd i; lined = λ n most k is. absurd (cc is) })))

steps_inv : Steps Inv
steps_inv terms front h next inv =
    after_inv (state_after terms front) h next.permitted (few_pins terms front (h ∷ []) next.lawful) (short_lines terms front (h ∷ []) next.lawful)
    (after_all-sound (start terms) front refl (λ counts. absurd (cc counts)) (front_from (start terms) front (h ∷ []) next.lawful) (start-sound from_now terms refl)) inv

whole : (terms : List Term) (log : Log) → Lawful terms log → Lawful terms (log ++ [])
whole terms log lawful = subst (λ (l : Log). Lawful terms l) (sym (append-nil log)) lawful

-- ---- and behind each phase that is done

abbrev Goes : State → Type 0
Goes s = Went s ⊎ Loaded s

-- while a chunk was loaded nothing but the event is handled
works : {s : State} → Loaded s → is_done s ≡ false
works {s} l = ap (λ (p : Phase). is_done_with p s) (facts_of l.held).at ∙ ap is_free (facts_of l.held).owes

next_goes : Stays Goes
next_goes s done (inl w) = inl (by_coming Went come_to-went s done w)
next_goes s done (inr l) = let both : true ≡ false = sym done ∙ works l in absurd (cc both)

goes_on : (terms : List Term) (s : State) (log : Log) → Obeys terms s log → Goes s
goes_on terms s log obeys = obeying Goes next_goes terms s log obeys (first (along Inv first_inv steps_inv terms log [] (whole terms log obeys.lawful)))
  where
    first : Inv (state_after terms log) → Goes (state_after terms log)
    first (inl q) = inl (record { inv = q; pinned = λ busy. few_pins terms log [] (whole terms log obeys.lawful) })
    first (inr l) = inr l

-- ---- what is left of the mark

with_mark : (c : Settings) (m most : ℕ) (s : State) → s.settings ≡ c → length s.chunks ≤ most → most + m ≤ c.critical → length s.chunks + m ≤ s.settings.critical
with_mark c m most s set few le = subst (λ (d : Settings). length s.chunks + m ≤ d.critical) (sym set) (omega (arith, few, le))

calm_room : (critical most : ℕ) → 512 ≤ critical → most ≤ critical - 32 → most + 32 ≤ critical
calm_room critical most marked le = omega arith

calm_less : (critical most : ℕ) → 512 ≤ critical → most ≤ critical - 32 → most + 31 ≤ critical
calm_less critical most marked le = omega arith

one_more : (critical : ℕ) → 512 ≤ critical → (critical - 32 + 1) + 31 ≤ critical
one_more critical marked = omega arith

within_mark : (critical most : ℕ) → most ≤ critical → most + 0 ≤ critical
within_mark critical most le = omega arith

no_more : (n m : ℕ) → n + 0 ≤ m → n ≤ m
no_more n m le = omega arith

-- the phases that chunks come and leave in
not_busy : (p : Phase) → (is_same_phase Handling p || is_same_phase Evicting p) ≡ false → is_busy p ≡ false
not_busy Before is = refl
not_busy IsWoken is = refl
not_busy IsConfigured is = refl
not_busy IsRooted is = refl
not_busy IsListed is = refl
not_busy IsListening is = refl
not_busy IsStuck is = refl
not_busy Awaiting is = refl
not_busy Handling is = absurd (cc is)
not_busy Evicting is = absurd (cc is)
not_busy Keeping is = refl
not_busy Deciding is = refl
not_busy Following is = refl
not_busy Connecting is = refl
not_busy DecidingAgain is = refl

quiet_room : (s : State) → Quiet s → HasRoom s
quiet_room s q = record {
  mark = subst (λ (c : Settings). 512 ≤ c.critical) (sym f.set) q.marked;
  within = no_more (length s.chunks) s.settings.critical (with_mark q.settings 0 q.most s f.set f.few (within_mark q.settings.critical q.most q.within));
  waits = λ isnt. with_mark q.settings 32 q.most s f.set f.few (calm_room q.settings.critical q.most q.marked (q.few (ap is_busy (sym f.at) ∙ not_busy s.phase isnt)));
  owes = λ owes. with_mark q.settings 31 q.most s f.set f.few (owed q.owes owes);
}
  where
    f : Pool (Where q.settings q.phase q.owed q.most) (view s)
    f = facts_of q.held

    owed : (q.owed ≡ Free) ⊎ ((q.phase ≡ Handling) × (q.most ≤ calm q.settings)) → is_free s.owed ≡ false → q.most + 31 ≤ q.settings.critical
    owed (inl free) owes = let both : true ≡ false = sym (ap is_free (f.owes ∙ free)) ∙ owes in absurd (cc both)
    owed (inr w) owes = calm_less q.settings.critical q.most q.marked w.1

loaded_room : (s : State) → Loaded s → HasRoom s
loaded_room s l = record {
  mark = subst (λ (c : Settings). 512 ≤ c.critical) (sym (facts_of l.held).set) l.marked;
  within = no_more (length s.chunks) s.settings.critical (less (length s.chunks) s.settings.critical now);
  waits = λ isnt. let both : true ≡ false = sym (ap (λ (p : Phase). is_same_phase Handling p || is_same_phase Evicting p) (facts_of l.held).at) ∙ isnt in absurd (cc both);
  owes = λ owes. now;
}
  where
    less : (n m : ℕ) → n + 31 ≤ m → n + 0 ≤ m
    less n m le = omega arith

    now : length s.chunks + 31 ≤ s.settings.critical
    now = with_mark l.settings 31 (calm l.settings + 1) s (facts_of l.held).set (facts_of l.held).few (one_more l.settings.critical l.marked)

pub turns_have_room : TurnsLeaveRoom
turns_have_room terms s log obeys = by (goes_on terms s log obeys)
  where
    by : Goes s → HasRoom s
    by (inl w) = quiet_room s w.inv
    by (inr l) = loaded_room s l
