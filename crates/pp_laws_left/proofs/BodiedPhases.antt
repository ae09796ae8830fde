-- A response to an exchange that has more of a body to ask goes on in each phase of a turn, and where connections are dialled and closed.
use Rattle.std.proofs.Common.{ℕ, ◌+◌, true, false, [], ◌∷◌, ◌++◌, Option, Some, None}
use Rattle.pp_law.specs.After.{dialled, dropped, new_conn, opened, out, reached, refused_dial, shut, undialled}
use Rattle.pp_law.specs.Connections.{Pause, AllPlaced, WaitsDial, WaitsDrop, conn, lose_attempt, may_ask_again, on_conn, placing, put_on}
use Rattle.pp_law.specs.Lists.{Bytes}
use Rattle.pp_law.specs.Phases.{behind, next}
use Rattle.pp_law.specs.State.{State, Phase, Before, IsWoken, IsConfigured, IsRooted, IsListed, IsListening, IsStuck, Awaiting, Handling, Evicting, Keeping, Deciding, Following, Connecting, DecidingAgain, Conn, Exchange}
use Rattle.pp_laws_turn.proofs.Cases.{when}
use Rattle.pp_laws_turn.proofs.View.{Holds, facts_of, holds}
use Rattle.pp_laws_left.proofs.Bodied.{end_exchange-suits, lose_attempt-suits}
use Rattle.pp_laws_left.proofs.BodiedChoices.{drop_unseen-fit, fill-fit, give_up_asks-fit, placing-fit, put_on-fit}
use Rattle.pp_laws_left.proofs.BodiedFits.{Fit, close_client-fit, fit_suits, touch-fit}

-- ---- phases

behind-fit : (phase : Phase) (s : State) → Holds Fit s → Holds Fit (behind phase s)
behind-fit Before s h = h
behind-fit IsWoken s h = h
behind-fit IsConfigured s h = h
behind-fit IsRooted s h = h
behind-fit IsListed s h = h
behind-fit IsListening s h = h
behind-fit IsStuck s h = h
behind-fit Awaiting s h = h
behind-fit Handling s h = holds (facts_of h)
behind-fit Evicting s h = give_up_asks-fit _ (holds (facts_of h))
behind-fit Keeping s h = holds (facts_of h)
behind-fit Deciding s h = holds (facts_of h)
behind-fit Following s h = fill-fit _ (give_up_asks-fit _ (drop_unseen-fit _ (holds (facts_of h))))
behind-fit Connecting s h = placing-fit _ (holds (facts_of h))
behind-fit DecidingAgain s h = h

pub next-fit : (s : State) → Holds Fit s → Holds Fit (next s)
unfolding next
next-fit s h = behind-fit s.phase s h

-- ---- events

pub opened-fit : (n : ℕ) (s : State) → Holds Fit s → Holds Fit (opened n s)
unfolding opened
opened-fit n s h = holds (facts_of h)

pub reached-fit : (n : ℕ) (s : State) → Holds Fit s → Holds Fit (reached n s)
unfolding reached on_conn
reached-fit n s h = touch-fit n _ (holds (facts_of h))

-- ---- closings and places

pub shut-fit : (n : ℕ) (s : State) → Holds Fit s → Holds Fit (shut n s)
unfolding shut
shut-fit n s h = holds (facts_of (close_client-fit n false s h))

pub dialled-fit : (n : ℕ) (host : Bytes) (port : ℕ) (s : State) → Holds Fit s → Holds Fit (dialled n host port (placing s))
unfolding dialled
dialled-fit n host port s h = by (placing s).pause
  where
    by : (pause : Pause) → Holds Fit (elim pause as (λ c. State) [
      | AllPlaced ↦ (placing s).state
      | WaitsDrop k e ↦ (placing s).state
      | WaitsDial e ↦ put_on e.number n (record (placing s).state { conns = (placing s).state.conns ++ new_conn n host port (placing s).state.clock ∷ []; top = n })
    ])
    by AllPlaced = placing-fit s h
    by (WaitsDrop k e) = placing-fit s h
    by (WaitsDial e) = put_on-fit e.number n _ (holds (facts_of (placing-fit s h)))

refused-fit : (e : Exchange) (s : State) → Holds Fit s → Holds Fit (refused_dial e s)
unfolding refused_dial
refused-fit e s h = when (may_ask_again s e.number) h (fill-fit _ (end_exchange-suits fit_suits e.number s h))

pub undialled-fit : (s : State) → Holds Fit s → Holds Fit (undialled (placing s))
unfolding undialled
undialled-fit s h = by (placing s).pause
  where
    by : (pause : Pause) → Holds Fit (elim pause as (λ c. State) [
      | AllPlaced ↦ (placing s).state
      | WaitsDrop k e ↦ (placing s).state
      | WaitsDial e ↦ refused_dial e (lose_attempt e (record (placing s).state { failures = (placing s).state.failures + 1 }))
    ])
    by AllPlaced = placing-fit s h
    by (WaitsDrop k e) = placing-fit s h
    by (WaitsDial e) = refused-fit e _ (lose_attempt-suits fit_suits e _ tt (holds (facts_of (placing-fit s h))))

out-fit : (n : ℕ) (s : State) → Holds Fit s → Holds Fit (out n s)
unfolding out
out-fit n s h = holds (facts_of h)

pub dropped-fit : (n : ℕ) (s : State) → Holds Fit s → Holds Fit (dropped n s)
unfolding dropped
dropped-fit n s h = by (conn s n)
  where
    by : (o : Option Conn) → Holds Fit (elim o as (λ y. State) [ None ↦ s | Some k ↦ elim k.is_closing as (λ z. State) [ true ↦ out n s | false ↦ out n (placing s).state ] ])
    by None = h
    by (Some k) = when k.is_closing (out-fit n s h) (out-fit n _ (placing-fit s h))
