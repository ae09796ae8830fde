-- In each state that a lawful log may go on as from, of each head more is to come, and each body that was begun goes on.
use Rattle.std.proofs.Common.{◌≡◌, ◌⊎◌, refl, ◌∙◌, true, false, List, [], ◌∷◌, ◌++◌, inl, inr, sym, subst, ap, le_refl, zero-le, arith}
use Rattle.std.proofs.lemmas.List.{append-nil}
use Rattle.pp_conf.specs.Conf.{defaults}
use Rattle.pp_law.proofs.Prefixes.{front_from}
use Rattle.pp_law.specs.Lawful.{Lawful}
use Rattle.pp_law.specs.Phases.{is_done, is_done_with, is_free}
use Rattle.pp_law.specs.State.{State, Term, Phase, Before, start}
use Rattle.pp_laws.specs.Runs.{state_after}
use Rattle.pp_laws.proofs.Happenings.{after_all-sound}
use Rattle.pp_laws.proofs.Laws.{start-sound}
use Rattle.pp_laws_bounds.proofs.Happenings.{from_now}
use Rattle.pp_laws_bounds.proofs.Laws.{short_lines}
use Rattle.pp_laws_bounds.proofs.SmallLaws.{few_pins}
use Rattle.pp_laws_pool.proofs.Along.{along, Steps}
use Rattle.pp_laws_pool.proofs.PoolHappenings.{after_inv}
use Rattle.pp_laws_pool.proofs.PoolTurns.{Inv, Loaded, Went, come_to-went, rests}
use Rattle.pp_laws_pool.proofs.View.{facts_of, holds}
use Rattle.pp_laws_room.proofs.Coming.{by_coming}
use Rattle.pp_laws_turn.proofs.Lifts.{Stays, obeying}
use Rattle.pp_obeys.specs.Obeys.{Obeys}
use Rattle.pp_world.specs.Log.{Log}
use Rattle.pp_comes_law.proofs.GotPieces.{Comes}

first_inv : (terms : List Term) → Inv (start terms)
first_inv terms = inl (rests defaults Before 0 (start terms) (omega arith) zero-le (λ is. absurd (cc is)) (holds (record { set = refl; at = refl; owes = refl; few = le_refl 0; apart = tt; near = inr zero-le; going = λ k x i. absurd i; unread = λ k i. absurd i; lined = λ n most k is. absurd (cc is) })))

steps_inv : Steps Inv
steps_inv terms front h next inv =
    after_inv (state_after terms front) h next.permitted (few_pins terms front (h ∷ []) next.lawful) (short_lines terms front (h ∷ []) next.lawful)
    (after_all-sound (start terms) front refl (λ counts. absurd (cc counts)) (front_from (start terms) front (h ∷ []) next.lawful) (start-sound from_now terms refl)) inv

whole : (terms : List Term) (log : Log) → Lawful terms log → Lawful terms (log ++ [])
whole terms log lawful = subst (λ (l : Log). Lawful terms l) (sym (append-nil log)) lawful

abbrev Goes : State → Type 0
Goes s = Went s ⊎ Loaded s

-- while a chunk was loaded nothing but the event is handled
works : {s : State} → Loaded s → is_done s ≡ false
works {s} l = ap (λ (p : Phase). is_done_with p s) (facts_of l.held).at ∙ ap is_free (facts_of l.held).owes

next_goes : Stays Goes
next_goes s done (inl w) = inl (by_coming Went come_to-went s done w)
next_goes s done (inr l) = let both : true ≡ false = sym done ∙ works l in absurd (cc both)

goes_on : (terms : List Term) (s : State) (log : Log) → Obeys terms s log → Goes s
goes_on terms s log obeys = obeying Goes next_goes terms s log obeys (first (along Inv first_inv steps_inv terms log [] (whole terms log obeys.lawful)))
  where
    first : Inv (state_after terms log) → Goes (state_after terms log)
    first (inl q) = inl (record { inv = q; pinned = λ busy. few_pins terms log [] (whole terms log obeys.lawful) })
    first (inr l) = inr l

pub comes_on : (terms : List Term) (s : State) (log : Log) → Obeys terms s log → Comes s
comes_on terms s log obeys = by (goes_on terms s log obeys)
  where
    by : Goes s → Comes s
    by (inl w) = record { as_is = _; none = refl; held = w.inv.held }
    by (inr l) = record { as_is = _; none = refl; held = l.held }
