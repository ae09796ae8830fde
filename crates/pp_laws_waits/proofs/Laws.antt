-- The laws: nobody waits on nothing, and what is held is not asked for.
use Rattle.std.proofs.Common.{◌≡◌, ◌⊎◌, refl, ℕ, Bool, true, false, not, ◌&&◌, List, [], ◌∷◌, ◌++◌, Option, Some, None, inl, inr, subst, ◌∙◌, arith}
use Rattle.pp_world.specs.Log.{Log}
use Rattle.pp_world.specs.declared.event.Wants.{Wants}
use Rattle.pp_world.specs.declared.happening.Happening.{Happening}
use Rattle.pp_world.specs.declared.happening.Happening.TheVariants.{Waits, Noted}
use Rattle.pp_world.specs.declared.note.Remark.TheVariants.{Taken}
use Rattle.pp_law.specs.After.{after}
use Rattle.pp_law.specs.Connections.{exchange, is_exchange}
use Rattle.pp_law.specs.Lawful.{Lawful}
use Rattle.pp_law.specs.Opening.{is_at, is_same_phase}
use Rattle.pp_law.specs.Permits.{may_wait}
use Rattle.pp_law.specs.Phases.{ending, may_end}
use Rattle.pp_law.specs.Served.{is_client_served, is_conn_served, is_exchange_served}
use Rattle.pp_law.specs.State.{State, Term, Phase, IsListening, Exchange, start}
use Rattle.pp_laws.specs.Runs.{after_all, state_after, IsIn}
use Rattle.pp_laws.proofs.Lists.{in_find}
use Rattle.pp_laws.proofs.Tests.{first_holds}
use Rattle.pp_laws_bounds.proofs.Kept.{Kept, Stands, facts_of, is_early}
use Rattle.pp_laws_bounds.proofs.Laws.{whole_kept}
use Rattle.pp_laws_bounds.proofs.Steps.{ending-kept}
use Rattle.pp_laws_bounds.proofs.Stops.{ending-stopped}
use Rattle.pp_laws_waits.specs.Held.{HitAsksNothing}
use Rattle.pp_laws_waits.specs.Waits.{EachExchangeIsPlaced, NoRingOfWaits, NobodyWaitsOnNothing, at_wait}
use Rattle.pp_laws_waits.proofs.Asked.{taken-none_new}
use Rattle.pp_laws_waits.proofs.Served.{Parts, all_in, behind_front, client_served, conn_served, either, exchange_served, parts_of, served_so}

-- what a wait has behind a lawful log
record Wait (s : State) (w : Wants) : Type 0 where
  may : may_wait s ≡ true
  parts : Parts (ending s) w

wait_of : (terms : List Term) (log : Log) (w : Wants) → Lawful terms (log ++ Waits w ∷ []) → Wait (state_after terms log) w
wait_of terms log w lawful =
    let r = served_so (state_after terms log) w (behind_front (start terms) log (Waits w ∷ []) lawful).0 in
    record { may = r.0; parts = parts_of (ending (state_after terms log)) w r.1 }

kept_of : (terms : List Term) (log : Log) (w : Wants) → Lawful terms (log ++ Waits w ∷ []) → Kept [] (ending (state_after terms log))
kept_of terms log w lawful = ending-kept (state_after terms log) (whole_kept terms log (Waits w ∷ []) lawful)

pub nobody_waits : NobodyWaitsOnNothing
nobody_waits terms log w lawful c i = client_served (at_wait terms log) w c (all_in (is_client_served (at_wait terms log) w) c (at_wait terms log).clients (wait_of terms log w lawful).parts.clients i)

-- ---- exchanges

at_listening : (phase : Phase) → is_same_phase IsListening phase ≡ true → is_early phase ≡ true
at_listening IsListening is = refl
at_listening phase is = grind arith

not_true : (t : Bool) → not t ≡ true → t ≡ false
not_true true is = absurd (cc is)
not_true false is = refl

-- behind Stop nothing waits
goes_on : (s : State) → Kept [] s → may_wait s ≡ true → s.is_stopped ≡ false
goes_on s h is = by (either (is_at IsListening s) (not s.is_stopped && may_end s) is)
  where
    by : (is_at IsListening s ≡ true) ⊎ (not s.is_stopped && may_end s ≡ true) → s.is_stopped ≡ false
    by (inl at) = ((facts_of h).none_yet (at_listening s.phase at)).1
    by (inr going) = not_true s.is_stopped (first_holds (not s.is_stopped) (may_end s) going)

stands_at : (terms : List Term) (log : Log) (w : Wants) → Lawful terms (log ++ Waits w ∷ []) → (e : Exchange) (n : ℕ) → IsIn e (at_wait terms log).exchanges → e.place ≡ Some n → Stands e n (at_wait terms log).conns
stands_at terms log w lawful e n i is = by ((facts_of (kept_of terms log w lawful)).lined going e n i is)
  where
    going : (ending (state_after terms log)).is_stopped ≡ false
    going = ending-stopped (state_after terms log) ∙ goes_on (state_after terms log) (whole_kept terms log (Waits w ∷ []) lawful) (wait_of terms log w lawful).may

    by : Stands e n (at_wait terms log).conns ⊎ IsIn e.number [] → Stands e n (at_wait terms log).conns
    by (inl r) = r
    by (inr none) = absurd none

pub all_placed : EachExchangeIsPlaced
all_placed terms log w lawful e i =
    exchange_served (at_wait terms log) w e (λ n is. stands_at terms log w lawful e n i is) (all_in (is_exchange_served (at_wait terms log) w) e (at_wait terms log).exchanges (wait_of terms log w lawful).parts.exchanges i)

-- ---- connections

first_there : (s : State) (line : List ℕ) (e : Exchange) → (elim line as (λ x. Option Exchange) [ [] ↦ None | n ∷ ns ↦ exchange s n ]) ≡ Some e → IsIn e s.exchanges
first_there s [] e is = absurd (cc is)
first_there s (n ∷ line) e is = (in_find (is_exchange n) e s.exchanges is).0

pub no_ring : NoRingOfWaits
no_ring terms log w lawful k i =
    conn_served (at_wait terms log) w k (λ e first. (facts_of (kept_of terms log w lawful)).asked_well e (first_there (at_wait terms log) k.line e first))
    (all_in (is_conn_served (at_wait terms log) w) k (at_wait terms log).conns (wait_of terms log w lawful).parts.conns i)

-- ---- what is held

after_push : (s : State) (log : Log) (h : Happening) → after_all s (log ++ h ∷ []) ≡ after (after_all s log) h
after_push s [] h = refl
after_push s (g ∷ log) h = after_push (after s g) log h

pub hit_asks_nothing : HitAsksNothing
hit_asks_nothing terms log c i d lawful answers e there =
    taken-none_new (state_after terms log) c i d answers e (subst (λ (s : State). IsIn e s.exchanges) (after_push (start terms) log (Noted (Taken c i d))) there)
