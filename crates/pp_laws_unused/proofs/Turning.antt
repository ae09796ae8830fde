-- Once it serves, no life is in its opening again.
use Rattle.std.proofs.Common.{◌≡◌, refl, ℕ, Bool, true, false, List, [], ◌∷◌, ◌++◌, ◌+◌, Option, Some, None, sym, ap, ◌∙◌}
use Rattle.std.specs.List.{list_any}
use Rattle.pp_law.specs.After.{dialled, dropped, event, new_conn, out, paid, refused_dial, take_decision, undialled}
use Rattle.pp_law.specs.Connections.{client, conn, end_exchange, lose_attempt, may_ask_again, on_conn, on_exchange, placing, put_on, AllPlaced, Pause, WaitsDial, WaitsDrop}
use Rattle.pp_law.specs.Deciding.{decided}
use Rattle.pp_law.specs.Followers.{fill}
use Rattle.pp_law.specs.Lists.{Bytes}
use Rattle.pp_law.specs.Opening.{is_at, is_same_phase}
use Rattle.pp_law.specs.Phases.{come, come_to, come_to_decide, decides, deciding, is_done, is_done_with, next, phases}
use Rattle.pp_law.specs.Replies.{regained}
use Rattle.pp_law.specs.State.{State, Client, Conn, Exchange, Phase, Before, IsWoken, IsConfigured, IsRooted, IsListed, IsListening, IsStuck, Awaiting, Handling, Evicting, Keeping, Deciding, Following, Connecting, DecidingAgain}
use Rattle.pp_world.specs.declared.note.Decision.{Decision}
use Rattle.pp_obeys.proofs.Come.{next-phase, onward}
use Rattle.pp_obeys.proofs.Frames.{Frame, Stays, frame, frame_of, stays}
use Rattle.pp_obeys.proofs.StaysAsks.{decided-stays, fill-stays}
use Rattle.pp_obeys.proofs.StaysTable.{end_exchange-stays, lose_attempt-stays}
use Rattle.pp_obeys.proofs.StaysTurns.{out-stays, placing-frame}
use Rattle.pp_laws_unused.proofs.Seen.{Early}

abbrev pub opens : Phase → Bool
opens q = list_any (λ p. is_same_phase p q) (IsWoken ∷ IsConfigured ∷ IsRooted ∷ IsListed ∷ IsListening ∷ IsStuck ∷ [])

-- in another phase nothing is asked
pub serves : (p : Phase) (s : State) → s.phase ≡ p → opens p ≡ false → Early s
serves p s at isnt is = let both : true ≡ false = sym is ∙ ap opens at ∙ isnt in absurd (cc both)

-- as the phase of another state
pub phase_as : (s t : State) → frame false t ≡ frame false s → t.phase ≡ s.phase
phase_as s t same = ap (λ (o : Frame). o.phase) same

pub phase_kept : (s t : State) → Stays false (frame false s) t → t.phase ≡ s.phase
phase_kept s t h = phase_as s t (frame_of h)

-- ---- the phases behind it

open_works : (p : Phase) (s : State) → opens p ≡ true → is_done_with p s ≡ true → ⊥
open_works Before s is done = cc is
open_works IsWoken s is done = cc done
open_works IsConfigured s is done = cc done
open_works IsRooted s is done = cc done
open_works IsListed s is done = cc done
open_works IsListening s is done = cc done
open_works IsStuck s is done = cc done
open_works Awaiting s is done = cc is
open_works Handling s is done = cc is
open_works Evicting s is done = cc is
open_works Keeping s is done = cc is
open_works Deciding s is done = cc is
open_works Following s is done = cc is
open_works Connecting s is done = cc is
open_works DecidingAgain s is done = cc is

open_before : (p : Phase) → opens (onward p) ≡ true → opens p ≡ true
open_before Before is = is
open_before IsWoken is = is
open_before IsConfigured is = is
open_before IsRooted is = is
open_before IsListed is = is
open_before IsListening is = is
open_before IsStuck is = is
open_before Awaiting is = is
open_before Handling is = absurd (cc is)
open_before Evicting is = absurd (cc is)
open_before Keeping is = absurd (cc is)
open_before Deciding is = absurd (cc is)
open_before Following is = absurd (cc is)
open_before Connecting is = absurd (cc is)
open_before DecidingAgain is = is

pub next_early : (s : State) → is_done s ≡ true → Early (next s)
next_early s done is = absurd (open_works s.phase s (open_before s.phase (sym (ap opens (next-phase s)) ∙ is)) done)

early_when : (t : Bool) {x y : State} → (t ≡ true → Early x) → Early y → Early (elim t as (λ c. State) [ true ↦ x | false ↦ y ])
early_when true hx hy = hx refl
early_when false hx hy = hy

come_early : (stops : State → Bool) (ps : List Phase) (s : State) → Early s → Early (come stops ps s)
unfolding come
come_early stops [] s h = h
come_early stops (p ∷ ps) s h = come_early stops ps _ (early_when (is_at p s) (λ at. early_when (stops s) (λ stop. h) (early_when (is_done s) (λ done. next_early s done) h)) h)

pub come_to_early : (p : Phase) (s : State) → Early s → Early (come_to p s)
unfolding come_to
come_to_early p s h = come_early (is_at p) phases s h

pub come_to_decide_early : (s : State) → Early s → Early (come_to_decide s)
unfolding come_to_decide
come_to_decide_early s h = come_early decides phases s h

-- ---- what is done in a turn stays in its phase

pub event_early : (s : State) → Early (event s)
unfolding event regained
event_early s is = absurd (cc is)

pub paid_phase : (s : State) → (paid s).phase ≡ s.phase
unfolding paid regained
paid_phase s = refl

pub deciding_phase : (s : State) → (deciding s).phase ≡ Deciding
unfolding deciding
deciding_phase s = refl

pub taken_phase : (n : ℕ) (d : Decision) (s : State) → (take_decision n d s).phase ≡ s.phase
unfolding take_decision regained
taken_phase n d s = by (client s n)
  where
    by : (o : Option Client) → (elim o as (λ c. State) [ None ↦ s | Some c ↦ regained (record (decided c d s) { forgotten = []; made_room_for = None }) ]).phase ≡ s.phase
    by None = refl
    by (Some c) = phase_kept s (decided c d s) (decided-stays c d s (stays refl))

placed_phase : (s : State) → (placing s).state.phase ≡ s.phase
placed_phase s = phase_as s (placing s).state (placing-frame false s)

pub dialled_phase : (n : ℕ) (host : Bytes) (port : ℕ) (s : State) → (dialled n host port (placing s)).phase ≡ s.phase
unfolding dialled put_on on_conn on_exchange
dialled_phase n host port s = by (placing s).pause ∙ placed_phase s
  where
    t : State
    t = (placing s).state

    by : (pause : Pause) → (elim pause as (λ c. State) [
      | AllPlaced ↦ t
      | WaitsDrop k e ↦ t
      | WaitsDial e ↦ put_on e.number n (record t { conns = t.conns ++ new_conn n host port t.clock ∷ []; top = n })
    ]).phase ≡ t.phase
    by AllPlaced = refl
    by (WaitsDrop k e) = refl
    by (WaitsDial e) = refl

refused_phase : (e : Exchange) (s : State) → (refused_dial e s).phase ≡ s.phase
unfolding refused_dial
refused_phase e s = by (may_ask_again s e.number)
  where
    by : (t : Bool) → (elim t as (λ c. State) [ true ↦ s | false ↦ fill (end_exchange e.number s) ]).phase ≡ s.phase
    by true = refl
    by false = phase_kept s _ (fill-stays _ (end_exchange-stays e.number s (stays refl)))

pub undialled_phase : (s : State) → (undialled (placing s)).phase ≡ s.phase
unfolding undialled
undialled_phase s = by (placing s).pause ∙ placed_phase s
  where
    t : State
    t = (placing s).state

    failed : State
    failed = record t { failures = t.failures + 1 }

    by : (pause : Pause) → (elim pause as (λ c. State) [ AllPlaced ↦ t | WaitsDrop k e ↦ t | WaitsDial e ↦ refused_dial e (lose_attempt e failed) ]).phase ≡ t.phase
    by AllPlaced = refl
    by (WaitsDrop k e) = refl
    by (WaitsDial e) = refused_phase e (lose_attempt e failed) ∙ phase_kept failed _ (lose_attempt-stays e failed (stays refl))

pub dropped_phase : (n : ℕ) (s : State) → (dropped n s).phase ≡ s.phase
unfolding dropped
dropped_phase n s = by (conn s n)
  where
    one : (t : Bool) → (elim t as (λ c. State) [ true ↦ out n s | false ↦ out n (placing s).state ]).phase ≡ s.phase
    one true = phase_kept s _ (out-stays n s (stays refl))
    one false = phase_kept (placing s).state _ (out-stays n (placing s).state (stays refl)) ∙ placed_phase s

    by : (o : Option Conn) → (elim o as (λ c. State) [ None ↦ s | Some k ↦ elim k.is_closing as (λ c. State) [ true ↦ out n s | false ↦ out n (placing s).state ] ]).phase ≡ s.phase
    by None = refl
    by (Some k) = one k.is_closing
