-- What followers ask for is there or comes in the phases behind that in which they ask, in each state that a lawful log may go on as from.
use Rattle.std.proofs.Common.{◌≡◌, refl, ℕ, ◌+◌, Bool, true, false, not, ◌&&◌, List, [], ◌∷◌, ◌++◌, is_some, Option, Some, None, inl, inr, sym, subst, ap, ◌∙◌}
use Rattle.pp_text.specs.Bytes.{is_empty}
use Rattle.pp_world.specs.Log.{Log}
use Rattle.pp_law.specs.After.{dialled, dropped, new_conn, out, refused_dial, undialled}
use Rattle.pp_law.specs.Connections.{conn, end_exchange, lose_attempt, may_ask_again, on_conn, on_exchange, placing, put_on, Pause, AllPlaced, WaitsDial, WaitsDrop}
use Rattle.pp_law.specs.Followers.{fill}
use Rattle.pp_law.specs.Lists.{Bytes}
use Rattle.pp_law.specs.Opening.{is_at}
use Rattle.pp_law.specs.Phases.{behind, come, come_to, come_to_decide, decides, in_phase, is_done, is_done_with, next, phases}
use Rattle.pp_law.specs.State.{State, Conn, Exchange, Phase, Before, IsWoken, IsConfigured, IsRooted, IsListed, IsListening, IsStuck, Awaiting, Handling, Evicting, Keeping, Deciding, Following, Connecting, DecidingAgain, Term}
use Rattle.pp_laws_served.specs.Filling.{IsLate, IsReady, failed}
use Rattle.pp_laws_served.proofs.Asking.{followers_ask}
use Rattle.pp_laws_served.proofs.Ready.{placed_ready}
use Rattle.pp_obeys.specs.Obeys.{Obeys}
use Rattle.pp_obeys.proofs.Come.{next-phase, onward}
use Rattle.pp_obeys.proofs.Frames.{Frame, Stays, frame, frame_of, stays}
use Rattle.pp_obeys.proofs.Obeying.{obeys_silently}
use Rattle.pp_obeys.proofs.StaysAsks.{fill-stays}
use Rattle.pp_obeys.proofs.StaysTable.{end_exchange-stays, lose_attempt-stays, placing-stays}
use Rattle.pp_obeys.proofs.StaysTurns.{next-frame, unphased}
use Rattle.pp_laws_left.proofs.Filled.{followed_are_within}

-- ---- the phases behind the disk

abbrev pub is_behind : Phase → Bool
is_behind Deciding = true
is_behind Following = true
is_behind Connecting = true
is_behind DecidingAgain = true
is_behind phase = false

-- nothing is under way there, and nothing is left to do
abbrev pub is_idle_in : Frame → Bool
is_idle_in f = is_empty f.agenda.todo && not (is_some f.under_way)

abbrev pub Idle : State → Type 0
Idle s = is_idle_in (frame true s) ≡ true

pub record Rests (s : State) : Type 0 where
  pub idle : is_behind s.phase ≡ true → Idle s
  -- at the end of a turn, unless a row left memory for a decision
  pub ready : (s.phase ≡ DecidingAgain → s.made_room_for ≡ None) → s.is_stopped ≡ false → IsLate s.phase → IsReady s

late_behind : (p : Phase) → IsLate p → is_behind p ≡ true
late_behind p (inl is) = ap is_behind is
late_behind p (inr is) = ap is_behind is

pub off_rests : (s : State) → is_behind s.phase ≡ false → Rests s
off_rests s off = record { idle = λ on. let both : true ≡ false = sym on ∙ off in absurd (cc both); ready = λ none runs late. let both : true ≡ false = sym (late_behind s.phase late) ∙ off in absurd (cc both) }

pub at_rests : (p : Phase) (s : State) → s.phase ≡ p → is_behind p ≡ false → Rests s
at_rests p s is off = off_rests s (ap is_behind is ∙ off)

pub idle_framed : (s t : State) → frame true t ≡ frame true s → Idle s → Idle t
idle_framed s t alike h = ap is_idle_in alike ∙ h

rephased_ready : (p : Phase) (s : State) → IsReady s → IsReady (in_phase p s)
rephased_ready p s h = record { filled = h.filled; asked = λ e i none fills. let w = h.asked e i none fills in record { client = w.client; there = w.there; its = w.its; brings_it = w.brings_it } }

-- ---- silent steps

unphased_idle : (s t : State) → unphased (frame true t) ≡ unphased (frame true s) → Idle s → Idle t
unphased_idle s t alike h = ap is_idle_in alike ∙ h

pub record Comes (terms : List Term) (log : Log) (s : State) : Type 0 where
  pub obeys : Obeys terms s log
  pub rests : Rests s

as_next : (s : State) → IsReady (next s) → IsReady (behind s.phase s)
unfolding next
as_next s h = h

pub next_ready : (terms : List Term) (log : Log) (s : State) → Obeys terms s log → s.is_stopped ≡ false → (IsLate s.phase → IsReady s) → (p : Phase) → s.phase ≡ p → IsLate (onward p) → IsReady (next s)
unfolding next
next_ready terms log s obeys runs was Following is late = asked_ready
  where
    asked_ready : IsReady (behind s.phase s)
    asked_ready = as_next s (followers_ask terms s log obeys is runs (followed_are_within terms s log obeys))
next_ready terms log s obeys runs was Connecting is late = subst (λ (p : Phase). IsReady (behind p s)) (sym is) (placed_ready (in_phase DecidingAgain s) (rephased_ready DecidingAgain s (was (inl is))))
next_ready terms log s obeys runs was DecidingAgain is late = subst (λ (p : Phase). IsReady (behind p s)) (sym is) (was (inr is))
next_ready terms log s obeys runs was Before is (inl late) = absurd (cc late)
next_ready terms log s obeys runs was Before is (inr late) = absurd (cc late)
next_ready terms log s obeys runs was IsWoken is (inl late) = absurd (cc late)
next_ready terms log s obeys runs was IsWoken is (inr late) = absurd (cc late)
next_ready terms log s obeys runs was IsConfigured is (inl late) = absurd (cc late)
next_ready terms log s obeys runs was IsConfigured is (inr late) = absurd (cc late)
next_ready terms log s obeys runs was IsRooted is (inl late) = absurd (cc late)
next_ready terms log s obeys runs was IsRooted is (inr late) = absurd (cc late)
next_ready terms log s obeys runs was IsListed is (inl late) = absurd (cc late)
next_ready terms log s obeys runs was IsListed is (inr late) = absurd (cc late)
next_ready terms log s obeys runs was IsListening is (inl late) = absurd (cc late)
next_ready terms log s obeys runs was IsListening is (inr late) = absurd (cc late)
next_ready terms log s obeys runs was IsStuck is (inl late) = absurd (cc late)
next_ready terms log s obeys runs was IsStuck is (inr late) = absurd (cc late)
next_ready terms log s obeys runs was Awaiting is (inl late) = absurd (cc late)
next_ready terms log s obeys runs was Awaiting is (inr late) = absurd (cc late)
next_ready terms log s obeys runs was Handling is (inl late) = absurd (cc late)
next_ready terms log s obeys runs was Handling is (inr late) = absurd (cc late)
next_ready terms log s obeys runs was Evicting is (inl late) = absurd (cc late)
next_ready terms log s obeys runs was Evicting is (inr late) = absurd (cc late)
next_ready terms log s obeys runs was Keeping is (inl late) = absurd (cc late)
next_ready terms log s obeys runs was Keeping is (inr late) = absurd (cc late)
next_ready terms log s obeys runs was Deciding is (inl late) = absurd (cc late)
next_ready terms log s obeys runs was Deciding is (inr late) = absurd (cc late)

done_idle : (a b c d : Bool) → (a && b && c && d) ≡ true → (a && b) ≡ true
done_idle true true c d is = refl
done_idle true false c d is = absurd (cc is)
done_idle false b c d is = absurd (cc is)

next_idle : (s : State) → is_done s ≡ true → (is_behind s.phase ≡ true → Idle s) → (p : Phase) → s.phase ≡ p → is_behind (onward p) ≡ true → Idle s
next_idle s done was Keeping is on = done_idle (is_empty s.agenda.todo) (not (is_some s.under_way)) _ _ (sym (ap (λ (p : Phase). is_done_with p s) is) ∙ done)
next_idle s done was Deciding is on = was (ap is_behind is)
next_idle s done was Following is on = was (ap is_behind is)
next_idle s done was Connecting is on = was (ap is_behind is)
next_idle s done was DecidingAgain is on = was (ap is_behind is)
next_idle s done was Before is on = absurd (cc on)
next_idle s done was IsWoken is on = absurd (cc on)
next_idle s done was IsConfigured is on = absurd (cc on)
next_idle s done was IsRooted is on = absurd (cc on)
next_idle s done was IsListed is on = absurd (cc on)
next_idle s done was IsListening is on = absurd (cc on)
next_idle s done was IsStuck is on = absurd (cc on)
next_idle s done was Awaiting is on = absurd (cc on)
next_idle s done was Handling is on = absurd (cc on)
next_idle s done was Evicting is on = absurd (cc on)

pub next_comes : (terms : List Term) (log : Log) (s : State) → is_done s ≡ true → Comes terms log s → Comes terms log (next s)
next_comes terms log s done h = record {
  obeys = obeys_silently h.obeys done;
  rests = record {
    idle = λ on. unphased_idle s (next s) (next-frame true s) (next_idle s done h.rests.idle s.phase refl (sym (ap is_behind (next-phase s)) ∙ on));
    ready = λ none runs late. (
        let going : s.is_stopped ≡ false = sym (ap (λ (o : Frame). o.is_stopped) (next-frame true s)) ∙ runs in
        next_ready terms log s h.obeys going (h.rests.ready (λ at. sym (ap (λ (o : Frame). o.made_room_for) (next-frame true s)) ∙ none (next-phase s ∙ ap onward at)) going) s.phase refl (subst IsLate (next-phase s) late));
  };
}

comes_when : {terms : List Term} {log : Log} (t : Bool) {x y : State} → (t ≡ true → Comes terms log x) → Comes terms log y → Comes terms log (elim t as (λ c. State) [ true ↦ x | false ↦ y ])
comes_when true hx hy = hx refl
comes_when false hx hy = hy

come_comes : (terms : List Term) (log : Log) (stops : State → Bool) (ps : List Phase) (s : State) → Comes terms log s → Comes terms log (come stops ps s)
unfolding come
come_comes terms log stops [] s h = h
come_comes terms log stops (p ∷ ps) s h = come_comes terms log stops ps _ (comes_when (is_at p s) (λ at. comes_when (stops s) (λ is. h) (comes_when (is_done s) (λ done. next_comes terms log s done h) h)) h)

pub come_to_comes : (terms : List Term) (log : Log) (p : Phase) (s : State) → Comes terms log s → Comes terms log (come_to p s)
unfolding come_to
come_to_comes terms log p s h = come_comes terms log (is_at p) phases s h

pub come_to_decide_comes : (terms : List Term) (log : Log) (s : State) → Comes terms log s → Comes terms log (come_to_decide s)
unfolding come_to_decide
come_to_decide_comes terms log s h = come_comes terms log decides phases s h

-- ---- in the phase of connections

-- behind what is done there
pub connected : (s t : State) → (come_to Connecting s).phase ≡ Connecting → t.phase ≡ (come_to Connecting s).phase → (Idle (come_to Connecting s) → Idle t) → (t.is_stopped ≡ false → (come_to Connecting s).is_stopped ≡ false)
    → ((come_to Connecting s).is_stopped ≡ false → IsReady (come_to Connecting s) → IsReady t) → Rests (come_to Connecting s) → Rests t
connected s t at alike idle runs ready h = record {
  idle = λ on. idle (h.idle (ap is_behind at));
  ready = λ none going late. ready (runs going) (h.ready (λ is. let both : Connecting ≡ DecidingAgain = sym at ∙ is in absurd (cc both)) (runs going) (inl at));
}

-- where a connection is dialled
refused_stays : (e : Exchange) (s : State) → Stays true (frame true s) (refused_dial e (lose_attempt e s))
unfolding refused_dial
refused_stays e s = by (may_ask_again (lose_attempt e s) e.number)
  where
    by : (t : Bool) → Stays true (frame true s) (elim t as (λ c. State) [ true ↦ lose_attempt e s | false ↦ fill (end_exchange e.number (lose_attempt e s)) ])
    by true = lose_attempt-stays e s (stays refl)
    by false = fill-stays _ (end_exchange-stays e.number _ (lose_attempt-stays e s (stays refl)))

pub dialled_frame : (n : ℕ) (host : Bytes) (port : ℕ) (s : State) → ((dialled n host port (placing s)).agenda ≡ s.agenda) × ((dialled n host port (placing s)).under_way ≡ s.under_way) × ((dialled n host port (placing s)).made_room_for ≡ s.made_room_for) × ((dialled n host port (placing s)).is_stopped ≡ s.is_stopped)
unfolding dialled put_on on_conn on_exchange
dialled_frame n host port s = by (placing s).pause
  where
    f : frame true (placing s).state ≡ frame true s
    f = frame_of {all = true} (placing-stays s (stays refl))

    same : ((placing s).state.agenda ≡ s.agenda) × ((placing s).state.under_way ≡ s.under_way) × ((placing s).state.made_room_for ≡ s.made_room_for) × ((placing s).state.is_stopped ≡ s.is_stopped)
    same = (ap (λ (o : Frame). o.agenda) f, ap (λ (o : Frame). o.under_way) f, ap (λ (o : Frame). o.made_room_for) f, ap (λ (o : Frame). o.is_stopped) f)

    by : (p : Pause) → let t : State = elim p as (λ c. State) [
      | AllPlaced ↦ (placing s).state
      | WaitsDrop k e ↦ (placing s).state
      | WaitsDial e ↦ put_on e.number n (record (placing s).state { conns = (placing s).state.conns ++ new_conn n host port (placing s).state.clock ∷ []; top = n })
    ] in (t.agenda ≡ s.agenda) × (t.under_way ≡ s.under_way) × (t.made_room_for ≡ s.made_room_for) × (t.is_stopped ≡ s.is_stopped)
    by AllPlaced = same
    by (WaitsDrop k e) = same
    by (WaitsDial e) = same

pub undialled_frame : (s : State) → ((undialled (placing s)).agenda ≡ s.agenda) × ((undialled (placing s)).under_way ≡ s.under_way) × ((undialled (placing s)).made_room_for ≡ s.made_room_for) × ((undialled (placing s)).is_stopped ≡ s.is_stopped)
unfolding undialled
undialled_frame s = by (placing s).pause
  where
    f : frame true (placing s).state ≡ frame true s
    f = frame_of {all = true} (placing-stays s (stays refl))

    same : ((placing s).state.agenda ≡ s.agenda) × ((placing s).state.under_way ≡ s.under_way) × ((placing s).state.made_room_for ≡ s.made_room_for) × ((placing s).state.is_stopped ≡ s.is_stopped)
    same = (ap (λ (o : Frame). o.agenda) f, ap (λ (o : Frame). o.under_way) f, ap (λ (o : Frame). o.made_room_for) f, ap (λ (o : Frame). o.is_stopped) f)

    refused : (e : Exchange) → let t : State = refused_dial e (lose_attempt e (failed (placing s).state)) in (t.agenda ≡ s.agenda) × (t.under_way ≡ s.under_way) × (t.made_room_for ≡ s.made_room_for) × (t.is_stopped ≡ s.is_stopped)
    refused e = let g = frame_of {all = true} (refused_stays e (failed (placing s).state)) in (ap (λ (o : Frame). o.agenda) g ∙ same.0, ap (λ (o : Frame). o.under_way) g ∙ same.1, ap (λ (o : Frame). o.made_room_for) g ∙ same.2, ap (λ (o : Frame). o.is_stopped) g ∙ same.3)

    by : (p : Pause) → let t : State = elim p as (λ c. State) [
      | AllPlaced ↦ (placing s).state
      | WaitsDrop k e ↦ (placing s).state
      | WaitsDial e ↦ refused_dial e (lose_attempt e (record (placing s).state { failures = (placing s).state.failures + 1 }))
    ] in (t.agenda ≡ s.agenda) × (t.under_way ≡ s.under_way) × (t.made_room_for ≡ s.made_room_for) × (t.is_stopped ≡ s.is_stopped)
    by AllPlaced = same
    by (WaitsDrop k e) = same
    by (WaitsDial e) = refused e

pub dropped_frame : (n : ℕ) (s : State) → frame true (dropped n s) ≡ frame true s
unfolding dropped out
dropped_frame n s = by (conn s n)
  where
    at : (b : Bool) → frame true (elim b as (λ c. State) [ true ↦ out n s | false ↦ out n (placing s).state ]) ≡ frame true s
    at true = refl
    at false = frame_of {all = true} (placing-stays s (stays refl))

    by : (o : Option Conn) → frame true (elim o as (λ c. State) [ None ↦ s | Some k ↦ elim k.is_closing as (λ d. State) [ true ↦ out n s | false ↦ out n (placing s).state ] ]) ≡ frame true s
    by None = refl
    by (Some k) = at k.is_closing
