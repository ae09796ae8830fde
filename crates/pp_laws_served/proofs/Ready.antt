-- Places keep what was asked for followers, and so does each phase on the way to the end of a turn.
use Rattle.std.proofs.Common.{◌≡◌, refl, ℕ, Bool, true, false, ◌||◌, List, [], ◌∷◌, ◌++◌, is_some, Option, Some, None, inl, inr, sym, subst, ap, ◌∙◌}
use Rattle.pp_world.specs.Log.{Log}
use Rattle.pp_law.specs.After.{dialled, dropped, new_conn, out}
use Rattle.pp_law.specs.Connections.{AllPlaced, Pause, Placement, WaitsDial, WaitsDrop, conn, is_exchange, on_conn, on_exchange, placing, put_on}
use Rattle.pp_law.specs.Lists.{Bytes}
use Rattle.pp_law.specs.Opening.{is_at}
use Rattle.pp_law.specs.Phases.{behind, come, come_to, in_phase, is_done, next, phases}
use Rattle.pp_law.specs.Stages.{filled_of}
use Rattle.pp_law.specs.State.{State, Phase, Before, IsWoken, IsConfigured, IsRooted, IsListed, IsListening, IsStuck, Awaiting, Handling, Evicting, Keeping, Deciding, Following, Connecting, DecidingAgain, Term, Conn, Exchange}
use Rattle.pp_law.specs.Table.{Next, brings, is_next_held}
use Rattle.pp_laws.proofs.Lists.{Changed, changed_at, in_change, other, same}
use Rattle.pp_laws_bounds.proofs.Places.{placing-any}
use Rattle.pp_obeys.specs.Obeys.{Obeys}
use Rattle.pp_obeys.proofs.Come.{next-phase, onward}
use Rattle.pp_obeys.proofs.Frames.{Frame}
use Rattle.pp_obeys.proofs.Obeying.{obeys_silently}
use Rattle.pp_obeys.proofs.Settled.{at_phase}
use Rattle.pp_obeys.proofs.StaysTurns.{next-frame}
use Rattle.pp_laws_served.specs.Filling.{AreWithin, EndsAreReady, IsAsked, IsLate, IsReady, PlacesKeepReady, unseen_dropped}
use Rattle.pp_laws_served.proofs.Asking.{followers_ask}
use Rattle.pp_laws_served.proofs.Begins.{any_mapped}

-- ---- places

put_ready : (n k : ℕ) (s : State) → IsReady s → IsReady (put_on n k s)
unfolding put_on on_conn on_exchange
put_ready n k s h = record {
  filled = λ c m i is tries stands. ap (λ b. is_next_held s m || b) (any_mapped (brings s m.source m.at) (changed_at (is_exchange n) (λ e. record e { place = Some k; asked = 0 })) (λ e. alike m e (is_exchange n e)) s.exchanges) ∙ h.filled c m i is tries stands;
  asked = λ e i none fills_it. by e (in_change (is_exchange n) (λ d. record d { place = Some k; asked = 0 }) e s.exchanges i) none fills_it;
}
  where
    alike : (m : Next) (e : Exchange) (b : Bool) → brings s m.source m.at (elim b as (λ y. Exchange) [ true ↦ record e { place = Some k; asked = 0 } | false ↦ e ]) ≡ brings s m.source m.at e
    alike m e true = refl
    alike m e false = refl

    by : (e : Exchange) → Changed (is_exchange n) (λ d. record d { place = Some k; asked = 0 }) s.exchanges e → e.place ≡ None → is_some (filled_of e) ≡ true → IsAsked (put_on n k s) e
    by e (same j isnt) none fills_it = let w = h.asked e j none fills_it in record { client = w.client; there = w.there; its = w.its; brings_it = w.brings_it }
    by e (other d j hit eq) none fills_it = let both : None ≡ Some k = sym none ∙ ap (λ (y : Exchange). y.place) eq in absurd (cc both)

pub placed_ready : (s : State) → IsReady s → IsReady (placing s).state
placed_ready s h = placing-any IsReady put_ready s h

-- where only connections are others, or the phase
phase_ready : (p : Phase) (s : State) → IsReady s → IsReady (in_phase p s)
phase_ready p s h = record { filled = h.filled; asked = λ e i none fills_it. let w = h.asked e i none fills_it in record { client = w.client; there = w.there; its = w.its; brings_it = w.brings_it } }

conns_ready : (conns : List Conn) (top : ℕ) (s : State) → IsReady s → IsReady (record s { conns = conns; top = top })
conns_ready conns top s h = record { filled = h.filled; asked = λ e i none fills_it. let w = h.asked e i none fills_it in record { client = w.client; there = w.there; its = w.its; brings_it = w.brings_it } }

out_ready : (n : ℕ) (s : State) → IsReady s → IsReady (out n s)
unfolding out
out_ready n s h = record { filled = h.filled; asked = λ e i none fills_it. let w = h.asked e i none fills_it in record { client = w.client; there = w.there; its = w.its; brings_it = w.brings_it } }

dropped_ready : (n : ℕ) (s : State) → IsReady s → IsReady (dropped n s)
unfolding dropped
dropped_ready n s h = by (conn s n)
  where
    at : (k : Conn) (b : Bool) → IsReady (elim b as (λ y. State) [ true ↦ out n s | false ↦ out n (placing s).state ])
    at k true = out_ready n s h
    at k false = out_ready n (placing s).state (placed_ready s h)

    by : (o : Option Conn) → IsReady (elim o as (λ y. State) [ None ↦ s | Some k ↦ elim k.is_closing as (λ z. State) [ true ↦ out n s | false ↦ out n (placing s).state ] ])
    by None = h
    by (Some k) = at k k.is_closing

dialled_ready : (n : ℕ) (host : Bytes) (port : ℕ) (p : Placement) → IsReady p.state → IsReady (dialled n host port p)
unfolding dialled
dialled_ready n host port p h = by p.pause
  where
    by : (o : Pause) → IsReady (elim o as (λ y. State) [
      | AllPlaced ↦ p.state
      | WaitsDrop k e ↦ p.state
      | WaitsDial e ↦ put_on e.number n (record p.state { conns = p.state.conns ++ new_conn n host port p.state.clock ∷ []; top = n })
    ])
    by AllPlaced = h
    by (WaitsDrop k e) = h
    by (WaitsDial e) = put_ready e.number n _ (conns_ready (p.state.conns ++ new_conn n host port p.state.clock ∷ []) n p.state h)

pub places_keep : PlacesKeepReady
places_keep s h = (placed_ready s h, λ n host port. dialled_ready n host port (placing s) (placed_ready s h), λ n. dropped_ready n s h)

-- ---- on the way to the end

record Comes (terms : List Term) (log : Log) (s : State) : Type 0 where
  obeys : Obeys terms s log
  runs : s.is_stopped ≡ false
  ready : IsLate s.phase → IsReady s

asked_then : (s : State) → IsReady (next s) → IsReady (behind s.phase s)
unfolding next
asked_then s h = h

not_late : (p : Phase) (q : Phase) → p ≡ q → (q ≡ Connecting → ⊥) → (q ≡ DecidingAgain → ⊥) → IsLate p → ⊥
not_late p q is a b (inl late) = a (sym is ∙ late)
not_late p q is a b (inr late) = b (sym is ∙ late)

module _ (terms : List Term) (log : Log) (within : (u : State) → Obeys terms u log → AreWithin (unseen_dropped u)) where
  ready_behind : (s : State) → Comes terms log s → (p : Phase) → s.phase ≡ p → IsLate (onward p) → IsReady (behind s.phase s)
  ready_behind s h Before is late = absurd (not_late Before Before refl (λ e. cc e) (λ e. cc e) late)
  ready_behind s h IsWoken is late = absurd (not_late IsWoken IsWoken refl (λ e. cc e) (λ e. cc e) late)
  ready_behind s h IsConfigured is late = absurd (not_late IsConfigured IsConfigured refl (λ e. cc e) (λ e. cc e) late)
  ready_behind s h IsRooted is late = absurd (not_late IsRooted IsRooted refl (λ e. cc e) (λ e. cc e) late)
  ready_behind s h IsListed is late = absurd (not_late IsListed IsListed refl (λ e. cc e) (λ e. cc e) late)
  ready_behind s h IsListening is late = absurd (not_late IsListening IsListening refl (λ e. cc e) (λ e. cc e) late)
  ready_behind s h IsStuck is late = absurd (not_late IsStuck IsStuck refl (λ e. cc e) (λ e. cc e) late)
  ready_behind s h Awaiting is late = absurd (not_late Awaiting Awaiting refl (λ e. cc e) (λ e. cc e) late)
  ready_behind s h Handling is late = absurd (not_late Evicting Evicting refl (λ e. cc e) (λ e. cc e) late)
  ready_behind s h Evicting is late = absurd (not_late Keeping Keeping refl (λ e. cc e) (λ e. cc e) late)
  ready_behind s h Keeping is late = absurd (not_late Deciding Deciding refl (λ e. cc e) (λ e. cc e) late)
  ready_behind s h Deciding is late = absurd (not_late Following Following refl (λ e. cc e) (λ e. cc e) late)
  ready_behind s h Following is late = asked_then s (followers_ask terms s log h.obeys is h.runs (within s h.obeys))
  ready_behind s h Connecting is late = subst (λ (p : Phase). IsReady (behind p s)) (sym is) (placed_ready (in_phase DecidingAgain s) (phase_ready DecidingAgain s (h.ready (inl is))))
  ready_behind s h DecidingAgain is late = subst (λ (p : Phase). IsReady (behind p s)) (sym is) (h.ready (inr is))

  next_comes : (s : State) → is_done s ≡ true → Comes terms log s → Comes terms log (next s)
  unfolding next
  next_comes s done h = record {
    obeys = obeys_silently h.obeys done;
    runs = ap (λ (o : Frame). o.is_stopped) (next-frame true s) ∙ h.runs;
    ready = λ late. ready_behind s h s.phase refl (subst IsLate (next-phase s) late);
  }

  comes_when : (t : Bool) (x y : State) → (t ≡ true → Comes terms log x) → Comes terms log y → Comes terms log (elim t as (λ c. State) [ true ↦ x | false ↦ y ])
  comes_when true x y hx hy = hx refl
  comes_when false x y hx hy = hy

  come_comes : (stops : State → Bool) (ps : List Phase) (s : State) → Comes terms log s → Comes terms log (come stops ps s)
  unfolding come
  come_comes stops [] s h = h
  come_comes stops (p ∷ ps) s h =
      come_comes stops ps _ (comes_when (is_at p s) _ s (λ at. comes_when (stops s) s _ (λ is. h) (comes_when (is_done s) (next s) s (λ done. next_comes s done h) h)) h)

  come_to_comes : (phase : Phase) (s : State) → Comes terms log s → Comes terms log (come_to phase s)
  unfolding come_to
  come_to_comes phase s h = come_comes (is_at phase) phases s h

at_so : (t holds : Bool) → (elim t as (λ c. Bool) [ true ↦ holds | false ↦ false ]) ≡ true → t ≡ true
at_so true holds is = refl
at_so false holds is = absurd (cc is)

pub ends_ready : EndsAreReady
ends_ready terms s log obeys runs may ready within =
    (come_to_comes terms log within DecidingAgain s (record { obeys = obeys; runs = runs; ready = ready })).ready
    (inr (at_phase DecidingAgain (come_to DecidingAgain s) (at_so (is_at DecidingAgain (come_to DecidingAgain s)) (is_done (come_to DecidingAgain s)) may)))
