-- What is not seen, places, marks, the clock and the end of a turn keep what is kept by each change.
use Rattle.std.proofs.Common.{refl, ℕ, max, Bool, true, false, ◌&&◌, not, map, Option, Some, None}
use Rattle.pp_world.specs.declared.event.Wants.{Wants}
use Rattle.pp_law.specs.Connections.{front_of_line, placing}
use Rattle.pp_law.specs.Offers.{has_to_say}
use Rattle.pp_law.specs.Stages.{bound_of}
use Rattle.pp_law.specs.State.{State, Bound, Joining, Client, Conn, Exchange}
use Rattle.pp_law.specs.Turn.{marked_client, marked_conn, touch, is_leap, marks_anew, is_idle_conn, owes_answer, end_patience, close_idle_conn, waits_for_exchange, woken_client, renew_marks, tick_to, tick, rested_client, rested_conn}
use Rattle.pp_law.specs.Unseen.{wanted_to, rested_exchange, is_unseen, drop_on, drop_unseen}
use Rattle.pp_laws_turn.proofs.View.{View, Places, Holds, holds, facts_of, view, SameAsk, SameClient, OfKeys, WalkOf}
use Rattle.pp_laws_turn.proofs.Cases.{each_of, when}
use Rattle.pp_laws_turn.proofs.Lined.{AreLined, on_takes, placing_puts}
use Rattle.pp_laws_turn.proofs.Closings.{close_conn-keeps}
use Rattle.pp_laws_turn.proofs.Exchanges.{each_conn-keeps, end_exchange-keeps, fail-keeps, on_client-keeps, on_conn-keeps, client_same, same_ask, same_conn, same_parts}

-- where lines are as they have to be
pub placing-keeps : {P : View → Type 0} (p : Places P) → ((t : State) → Holds P t → AreLined t.conns t.exchanges t.next_exchange) → (s : State) → Holds P s → Holds P (placing s).state
placing-keeps {P} p lined s h = placing_puts (Holds P) (λ n k e t found is ht. holds (p n k t (on_takes t n k e (lined t ht) found is) (facts_of ht))) s h

drop_on-keeps : {K : OfKeys} {P : View → Type 0} (w : WalkOf K P) (k : Conn) (s : State) → Holds P s → Holds P (drop_on k s)
unfolding drop_on
drop_on-keeps w k s h =
    each_of (front_of_line s k) h
    (λ e. when (is_unseen s k e) (close_conn-keeps w false k _ (end_exchange-keeps w e.number s h)) h)

pub drop_unseen-keeps : {K : OfKeys} {P : View → Type 0} (w : WalkOf K P) (s : State) → Holds P s → Holds P (drop_unseen s)
unfolding drop_unseen
drop_unseen-keeps w s h = each_conn-keeps w drop_on (drop_on-keeps w) _ s h

-- ---- marks, and the clock

pub touch-keeps : {K : OfKeys} {P : View → Type 0} (w : WalkOf K P) (n : ℕ) (s : State) → Holds P s → Holds P (touch n s)
unfolding touch
touch-keeps w n s h = on_conn-keeps w n (marked_conn s.clock) _ (λ k. same_conn _ k refl refl refl) (on_client-keeps w n (marked_client s.clock) s (λ c. same_parts _ c refl refl refl refl refl (λ is. is)) h)

marks_anew-keeps : {K : OfKeys} {P : View → Type 0} (w : WalkOf K P) (now : ℕ) (s : State) → Holds P s → Holds P (marks_anew now s)
unfolding marks_anew
marks_anew-keeps {P} w now s h = when (is_leap now s) marked h
  where
    marked : Holds P (record s { has_ticked = true; clients = map (marked_client now) s.clients; conns = map (marked_conn now) s.conns })
    marked = holds (w.conns (marked_conn now) (λ k. same_conn _ k refl refl refl) (record (view s) { clients = map (marked_client now) s.clients }) (w.clients (marked_client now) (λ c. same_parts _ c refl refl refl refl refl (λ is. is)) (view s) (facts_of h)))

end_patience-keeps : {K : OfKeys} {P : View → Type 0} (w : WalkOf K P) (k : Conn) (s : State) → Holds P s → Holds P (end_patience k s)
unfolding end_patience
end_patience-keeps {P} w k s h = when_not (owes_answer s k) h (each_of (front_of_line s k) h (λ e. fail-keeps w e s h))
  where
    when_not : (t : Bool) {x y : State} → Holds P x → Holds P y → Holds P (elim t as (λ c. State) [ false ↦ x | true ↦ y ])
    when_not false hx hy = hx
    when_not true hx hy = hy

close_idle_conn-keeps : {K : OfKeys} {P : View → Type 0} (w : WalkOf K P) (k : Conn) (s : State) → Holds P s → Holds P (close_idle_conn k s)
unfolding close_idle_conn
close_idle_conn-keeps w k s h = when (is_idle_conn s k) (close_conn-keeps w true k _ (end_patience-keeps w k s h)) h

woken-same : (now : ℕ) (s : State) (c : Client) → SameClient (woken_client now s c) c
woken-same now s c = by (waits_for_exchange s c && not (has_to_say s c))
  where
    by : (t : Bool) → SameClient (elim t as (λ d. Client) [ true ↦ marked_client now c | false ↦ c ]) c
    by true = same_parts _ c refl refl refl refl refl (λ is. is)
    by false = client_same c

renew_marks-keeps : {K : OfKeys} {P : View → Type 0} (w : WalkOf K P) (now : ℕ) (s : State) → Holds P s → Holds P (renew_marks now s)
unfolding renew_marks
renew_marks-keeps w now s h = holds (w.clients (woken_client now s) (woken-same now s) (view s) (facts_of h))

tick_to-keeps : {K : OfKeys} {P : View → Type 0} (w : WalkOf K P) (now : ℕ) (s : State) → Holds P s → Holds P (tick_to now s)
unfolding tick_to
tick_to-keeps {P} w now s h = each_conn-keeps w close_idle_conn (close_idle_conn-keeps w) _ _ marked
  where
    marked : Holds P (record (renew_marks now (marks_anew now s)) { clock = now; is_ticked = true; has_lost_draft = false })
    marked = holds (facts_of (renew_marks-keeps w now _ (marks_anew-keeps w now s h)))

pub tick-keeps : {K : OfKeys} {P : View → Type 0} (w : WalkOf K P) (now : ℕ) (s : State) → Holds P s → Holds P (tick now s)
unfolding tick
tick-keeps w now s h = tick_to-keeps w (max s.clock now) s h

-- ---- the end of a turn

rested_ask : (s : State) (e : Exchange) → SameAsk (rested_exchange s e) e
rested_ask s e = by (bound_of e)
  where
    by : (o : Option Bound) → SameAsk (elim o as (λ c. Exchange) [ None ↦ e | Some b ↦ record e { body = Joining (wanted_to s b) } ]) e
    by None = same_ask e e refl refl refl refl refl refl (λ is. is)
    by (Some b) = same_ask _ e refl refl refl refl refl refl (λ is. is)

-- clients, connections and exchanges as they rest
pub rested-keeps : {K : OfKeys} {P : View → Type 0} (w : WalkOf K P) (wants : Wants) (s : State) → Holds P s → P (record (view s) { clients = map (rested_client s) s.clients; conns = map (rested_conn s wants) s.conns; exchanges = map (rested_exchange s) s.exchanges })
rested-keeps w wants s h =
    w.asks (rested_exchange s) (record (view s) { clients = map (rested_client s) s.clients; conns = map (rested_conn s wants) s.conns }) (λ e i. rested_ask s e)
    (w.conns (rested_conn s wants) (λ k. same_conn _ k refl refl refl) (record (view s) { clients = map (rested_client s) s.clients })
    (w.clients (rested_client s) (λ c. same_parts _ c refl refl refl refl refl (λ is. is)) (view s) (facts_of h)))
