-- The law: no more chunks are used than the critical mark says.
use Rattle.std.proofs.Common.{◌≡◌, ◌⊎◌, refl, ℕ, ◌+◌, ◌-◌, ◌≤◌, List, [], ◌∷◌, length, inl, inr, sym, subst, le_refl, le_trans, zero-le, arith}
use Rattle.pp_conf.specs.Conf.{defaults}
use Rattle.pp_law.specs.State.{State, Term, Before, start}
use Rattle.pp_laws.specs.Runs.{state_after}
use Rattle.pp_laws.proofs.Happenings.{after_all-sound}
use Rattle.pp_laws.proofs.Laws.{start-sound}
use Rattle.pp_law.proofs.Prefixes.{front_from}
use Rattle.pp_laws_bounds.specs.Bounds.{Always}
use Rattle.pp_laws_bounds.proofs.Happenings.{from_now}
use Rattle.pp_laws_bounds.proofs.Laws.{short_lines}
use Rattle.pp_laws_bounds.proofs.SmallLaws.{few_pins}
use Rattle.pp_laws_pool.specs.Pool.{IsWithinMark}
use Rattle.pp_laws_pool.proofs.Along.{along, Next, Steps}
use Rattle.pp_laws_pool.proofs.PoolHappenings.{after_inv}
use Rattle.pp_laws_pool.proofs.PoolTurns.{Inv, Loaded, Quiet, rests}
use Rattle.pp_laws_pool.proofs.View.{holds, facts_of}

first_inv : (terms : List Term) → Inv (start terms)
first_inv terms = inl (rests defaults Before 0 (start terms) (omega arith) zero-le (λ is. absurd (cc is)) (holds (record { set = refl; at = refl; owes = refl; few = le_refl 0; apart = tt; near = inr zero-le; going = λ k x i. absurd i; unread = λ k i. absurd i; lined = λ n most k is. absurd (cc is) })))

steps_inv : Steps Inv
steps_inv terms front h next inv =
    after_inv (state_after terms front) h next.permitted (few_pins terms front (h ∷ []) next.lawful) (short_lines terms front (h ∷ []) next.lawful)
    (after_all-sound (start terms) front refl (λ counts. absurd (cc counts)) (front_from (start terms) front (h ∷ []) next.lawful) (start-sound from_now terms refl)) inv

within : (s : State) → Inv s → IsWithinMark s
within s (inl q) = subst (λ c. length s.chunks ≤ c.critical) (sym (facts_of q.held).set) (le_trans (facts_of q.held).few q.within)
within s (inr l) = subst (λ c. length s.chunks ≤ c.critical) (sym (facts_of l.held).set) (le_trans (facts_of l.held).few (one_more l.settings.critical l.marked))
  where
    one_more : (critical : ℕ) → 512 ≤ critical → critical - 32 + 1 ≤ critical
    one_more critical le = omega arith

pub within_mark : Always IsWithinMark
within_mark terms front rest lawful = within (state_after terms front) (along Inv first_inv steps_inv terms front rest lawful)
