-- Closings and places keep it.
use Rattle.std.proofs.Common.{◌≡◌, refl, ℕ, Bool, true, false, not, [], ◌∷◌, ◌++◌, filter, ◌∙◌}
use Rattle.pp_law.specs.After.{dialled, dropped, new_conn, out, refused_dial, shut, undialled}
use Rattle.pp_law.specs.Closing.{close_client}
use Rattle.pp_law.specs.Connections.{Pause, AllPlaced, WaitsDial, WaitsDrop, conn, end_exchange, is_client, lose_attempt, may_ask_again, on_conn, on_exchange, placing, put_on}
use Rattle.pp_law.specs.Lists.{Bytes}
use Rattle.pp_law.specs.State.{State, Client, Exchange}
use Rattle.pp_laws.specs.Runs.{IsIn}
use Rattle.pp_laws.proofs.Lists.{in_filter}
use Rattle.pp_laws_turn.proofs.Cases.{each_of, when}
use Rattle.pp_laws_turn.proofs.View.{Holds, facts_of, holds, view}
use Rattle.pp_laws_coming.proofs.Phases.{AtPhase, stays_at}
use Rattle.pp_laws_coming.proofs.Steps.{placing-comes, put_on-comes}
use Rattle.pp_law.specs.Followers.{fill}
use Rattle.pp_laws_coming.proofs.Refusals.{refused_dial-comes}
use Rattle.pp_laws_coming.proofs.Stills.{close_client-phase, filled-phase, lose_attempt-phase, placing_phase}
use Rattle.pp_laws_coming.proofs.Clients.{close_client-comes}
use Rattle.pp_laws_coming.proofs.Facts.{Coming}

-- ---- closings and places

shut-by : {late : Bool} → (n : ℕ) (s : State) → Holds (Coming late) s → Holds (Coming late) (shut n s)
unfolding shut
shut-by {late} n s h = holds (record {
  callers = λ c d i j eq. closed.callers c d (there c i) (there d j) eq;
  apart = closed.apart;
  given = closed.given;
  one = closed.one;
  fresh = closed.fresh;
  headed = closed.headed;
  placeless = closed.placeless;
  rowed = closed.rowed;
  settled = λ c i. closed.settled c (there c i);
  told = λ e m c i j asks is off. closed.told e m c i (there c j) asks is off;
})
  where
    closed : Coming late (view (close_client n false s))
    closed = facts_of (close_client-comes n false s h)

    there : (c : Client) → IsIn c (filter (λ x. not (is_client n x)) (close_client n false s).clients) → IsIn c (close_client n false s).clients
    there c i = (in_filter (λ x. not (is_client n x)) c (close_client n false s).clients i).0

shut_phase : (n : ℕ) (s : State) → (shut n s).phase ≡ s.phase
unfolding shut
shut_phase n s = close_client-phase n false s

pub shut-comes : (n : ℕ) (s : State) → Holds AtPhase s → Holds AtPhase (shut n s)
shut-comes n s h = stays_at s (shut n s) (shut_phase n s) (λ late ht. shut-by n s ht) h

put_on-at : (n k : ℕ) (s : State) → Holds AtPhase s → Holds AtPhase (put_on n k s)
unfolding put_on on_conn on_exchange
put_on-at n k s h = stays_at s (put_on n k s) refl (λ late ht. put_on-comes n k s ht) h

placing-at : (s : State) → Holds AtPhase s → Holds AtPhase (placing s).state
placing-at s h = stays_at s (placing s).state (placing_phase s) (λ late ht. placing-comes s ht) h

dialled_by : (n : ℕ) (host : Bytes) (port : ℕ) (s : State) (pause : Pause) → Holds AtPhase s
    → Holds AtPhase (elim pause as (λ c. State) [
      | AllPlaced ↦ s
      | WaitsDrop k e ↦ s
      | WaitsDial e ↦ put_on e.number n (record s { conns = s.conns ++ new_conn n host port s.clock ∷ []; top = n })
    ])
dialled_by n host port s AllPlaced h = h
dialled_by n host port s (WaitsDrop k e) h = h
dialled_by n host port s (WaitsDial e) h = put_on-at e.number n _ (holds (facts_of h))

pub dialled-comes : (n : ℕ) (host : Bytes) (port : ℕ) (s : State) → Holds AtPhase s → Holds AtPhase (dialled n host port (placing s))
unfolding dialled
dialled-comes n host port s h = dialled_by n host port (placing s).state (placing s).pause (placing-at s h)

refused_phase : (e : Exchange) (s : State) → (refused_dial e (lose_attempt e s)).phase ≡ s.phase
unfolding refused_dial
refused_phase e s = by (may_ask_again (lose_attempt e s) e.number)
  where
    by : (t : Bool) → (elim t as (λ c. State) [ true ↦ lose_attempt e s | false ↦ fill (end_exchange e.number (lose_attempt e s)) ]).phase ≡ s.phase
    by true = lose_attempt-phase e s
    by false = filled-phase e.number (lose_attempt e s) ∙ lose_attempt-phase e s

refused_dial-at : (e : Exchange) (s : State) → Holds AtPhase s → Holds AtPhase (refused_dial e (lose_attempt e s))
refused_dial-at e s h = stays_at s (refused_dial e (lose_attempt e s)) (refused_phase e s) (λ late ht. refused_dial-comes e s ht) h

undialled_by : (s : State) (pause : Pause) → Holds AtPhase s → Holds AtPhase (undialled (record { state = s; pause = pause }))
unfolding undialled
undialled_by s AllPlaced h = h
undialled_by s (WaitsDrop k e) h = h
undialled_by s (WaitsDial e) h = refused_dial-at e _ (holds (facts_of h))

pub undialled-comes : (s : State) → Holds AtPhase s → Holds AtPhase (undialled (placing s))
undialled-comes s h = undialled_by (placing s).state (placing s).pause (placing-at s h)

out-comes : (n : ℕ) (s : State) → Holds AtPhase s → Holds AtPhase (out n s)
unfolding out
out-comes n s h = holds (facts_of h)

pub dropped-comes : (n : ℕ) (s : State) → Holds AtPhase s → Holds AtPhase (dropped n s)
unfolding dropped
dropped-comes n s h = each_of (conn s n) h (λ k. when k.is_closing (out-comes n s h) (out-comes n _ (placing-at s h)))
