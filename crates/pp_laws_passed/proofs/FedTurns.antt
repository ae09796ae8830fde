-- The phases of a turn, its clock and its end keep it.
use Rattle.std.proofs.Common.{◌≡◌, refl, Some, None, sym, ap, ℕ, zero, suc, ◌+◌, ◌/◌, max, nat_lt, Bool, true, false, not, ◌&&◌, List, [], ◌∷◌, map}
use Rattle.pp_world.specs.declared.event.Wants.{Wants}
use Rattle.pp_law.specs.Chunks.{chunk_len}
use Rattle.pp_law.specs.Connections.{front_of_line, anew}
use Rattle.pp_law.specs.Deciding.{is_for_memory, mark_row_of, enter_row}
use Rattle.pp_law.specs.Offers.{has_to_say}
use Rattle.pp_law.specs.Opening.{is_at}
use Rattle.pp_law.specs.Phases.{phases, in_phase, behind, next, is_done, come, come_to, decides, come_to_decide, deciding}
use Rattle.pp_law.specs.Replies.{use_chunks, use_from, use_said, of_body, is_finished, close_finished, is_regained, regained_by, regained}
use Rattle.pp_law.specs.Requests.{key_in}
use Rattle.pp_law.specs.State.{State, Phase, Before, IsWoken, IsConfigured, IsRooted, IsListed, IsListening, IsStuck, Awaiting, Handling, Evicting, Keeping, Deciding, Following, Connecting, DecidingAgain, Client, Conn, Exchange, Body, Pending, Joining, Relaying, Dropping}
use Rattle.pp_law.specs.Table.{Next, next_of, row}
use Rattle.pp_law.specs.Turn.{waits_for_exchange, marked_client, marked_conn, touch, is_leap, marks_anew, is_idle_conn, owes_answer, end_patience, close_idle_conn, woken_client, renew_marks, tick_to, tick, rested_client, rested_conn, rested_instance, rest_with}
use Rattle.pp_law.specs.Lists.{Bytes}
use Rattle.pp_law.specs.Stages.{bound_in, is_pending}
use Rattle.pp_law.specs.Unseen.{is_unseen, wanted_to, rested_exchange, drop_on, drop_unseen}
use Rattle.pp_target.specs.Key.{text_of}
use Rattle.pp_world.specs.declared.note.Decision.{Decision}
use Rattle.pp_laws_passed.proofs.Cases.{each_of, when}
use Rattle.pp_laws_passed.proofs.Fed.{Fed, SameClient, SameExchange, Tale, client_same, clients_mapped, conns_mapped, exchange_same, exchanges_mapped, facts_of, fed, parts_same, still}
use Rattle.pp_laws_passed.proofs.FedAsks.{close_client-fed, close_conn-fed, each_conn-fed, end_exchange-fed, fail-fed, fill-fed, give_up_asks-fed, on_client-fed, on_conn-fed, placing-fed}
use Rattle.pp_laws_passed.proofs.Same.{Same, itself}
use Rattle.pp_laws_passed.proofs.SameCases.{each_of as same_each, when as same_when}
use Rattle.pp_laws_passed.proofs.SameRows.{enter-same, mark_row-same, use_chunk-same}

mark_row_of-same : {o : State} (key : Bytes) (s : State) → Same o s → Same o (mark_row_of key s)
unfolding mark_row_of
mark_row_of-same key s h = same_each (row s key) h (λ x. mark_row-same x.id s h)

pub enter_row-same : {o : State} (c : Client) (d : Decision) (s : State) → Same o s → Same o (enter_row c d s)
unfolding enter_row
enter_row-same c d s h = same_when (is_for_memory d) h (same_each (key_in c.front) h (λ key. mark_row_of-same (text_of key) _ (enter-same (text_of key) false s h)))

use_chunks-same : {o : State} (more id i : ℕ) (s : State) → Same o s → Same o (use_chunks more id i s)
unfolding use_chunks
use_chunks-same zero id i s h = h
use_chunks-same (suc more) id i s h = use_chunks-same more id (i + 1) _ (use_chunk-same id i s h)

use_from-same : {o : State} (n : ℕ) (x : Next) (s : State) → Same o s → Same o (use_from n x s)
unfolding use_from
use_from-same n x s h = use_chunks-same _ x.source.id (x.at / chunk_len) s h

pub use_said-same : {o : State} (n : ℕ) (c : Client) (s : State) → Same o s → Same o (use_said n c s)
unfolding use_said
use_said-same n c s h = same_when (nat_lt 0 (of_body n c)) (same_each (next_of s c) h (λ x. use_from-same (of_body n c) x s h)) h

module _ {tale : Tale} where
  drop_on-fed : (k : Conn) (s : State) → Fed tale s → Fed tale (drop_on k s)
  unfolding drop_on
  drop_on-fed k s h = each_of (front_of_line s k) h (λ e. when (is_unseen s k e) (close_conn-fed false k _ (end_exchange-fed e.number s h)) h)

  drop_unseen-fed : (s : State) → Fed tale s → Fed tale (drop_unseen s)
  unfolding drop_unseen
  drop_unseen-fed s h = each_conn-fed drop_on drop_on-fed _ s h

  -- ---- phases

  pub in_phase-fed : (phase : Phase) (s : State) → Fed tale s → Fed tale (in_phase phase s)
  in_phase-fed phase s h = fed (facts_of h)

  behind-fed : (phase : Phase) (s : State) → Fed tale s → Fed tale (behind phase s)
  behind-fed Before s h = h
  behind-fed IsWoken s h = h
  behind-fed IsConfigured s h = h
  behind-fed IsRooted s h = h
  behind-fed IsListed s h = h
  behind-fed IsListening s h = h
  behind-fed IsStuck s h = h
  behind-fed Awaiting s h = h
  behind-fed Handling s h = in_phase-fed Evicting s h
  behind-fed Evicting s h = give_up_asks-fed _ (in_phase-fed Keeping s h)
  behind-fed Keeping s h = in_phase-fed Deciding s h
  behind-fed Deciding s h = in_phase-fed Following s h
  behind-fed Following s h = fill-fed _ (give_up_asks-fed _ (drop_unseen-fed _ (in_phase-fed Connecting s h)))
  behind-fed Connecting s h = placing-fed _ (in_phase-fed DecidingAgain s h)
  behind-fed DecidingAgain s h = h

  next-fed : (s : State) → Fed tale s → Fed tale (next s)
  unfolding next
  next-fed s h = behind-fed s.phase s h

  come-fed : (stops : State → Bool) (ps : List Phase) (s : State) → Fed tale s → Fed tale (come stops ps s)
  unfolding come
  come-fed stops [] s h = h
  come-fed stops (p ∷ ps) s h = come-fed stops ps _ (when (is_at p s) (when (stops s) h (when (is_done s) (next-fed s h) h)) h)

  pub come_to-fed : (phase : Phase) (s : State) → Fed tale s → Fed tale (come_to phase s)
  unfolding come_to
  come_to-fed phase s h = come-fed (is_at phase) phases s h

  pub come_to_decide-fed : (s : State) → Fed tale s → Fed tale (come_to_decide s)
  unfolding come_to_decide
  come_to_decide-fed s h = come-fed decides phases s h

  pub deciding-fed : (s : State) → Fed tale s → Fed tale (deciding s)
  unfolding deciding
  deciding-fed s h = in_phase-fed Deciding _ (come_to_decide-fed s h)

  -- ---- marks, and the clock

  pub touch-fed : (n : ℕ) (s : State) → Fed tale s → Fed tale (touch n s)
  unfolding touch
  touch-fed n s h = on_conn-fed n (marked_conn s.clock) _ (λ k. record { number = refl; line = refl; answer = refl }) (on_client-fed n (marked_client s.clock) s (λ c. parts_same _ c refl refl refl refl refl) h)

  marks_anew-fed : (now : ℕ) (s : State) → Fed tale s → Fed tale (marks_anew now s)
  unfolding marks_anew
  marks_anew-fed now s h =
      when (is_leap now s) (fed (clients_mapped (record s { conns = map (marked_conn now) s.conns }) (marked_client now) (λ c. parts_same _ c refl refl refl refl refl) (conns_mapped s (marked_conn now) (λ k. record { number = refl; line = refl; answer = refl }) (facts_of h)))) h

  end_patience-fed : (k : Conn) (s : State) → Fed tale s → Fed tale (end_patience k s)
  unfolding end_patience
  end_patience-fed k s h = when (owes_answer s k) (each_of (front_of_line s k) h (λ e. fail-fed e s h)) h

  close_idle_conn-fed : (k : Conn) (s : State) → Fed tale s → Fed tale (close_idle_conn k s)
  unfolding close_idle_conn
  close_idle_conn-fed k s h = when (is_idle_conn s k) (close_conn-fed true k _ (end_patience-fed k s h)) h

  woken-by : (now : ℕ) (c : Client) (woken : Bool) → SameClient tale tale (elim woken as (λ x. Client) [ true ↦ marked_client now c | false ↦ c ]) c
  woken-by now c true = parts_same _ c refl refl refl refl refl
  woken-by now c false = client_same c

  renew_marks-fed : (now : ℕ) (s : State) → Fed tale s → Fed tale (renew_marks now s)
  unfolding renew_marks
  renew_marks-fed now s h = fed (clients_mapped s (woken_client now s) (λ c. woken-by now c (waits_for_exchange s c && not (has_to_say s c))) (facts_of h))

  tick_to-fed : (now : ℕ) (s : State) → Fed tale s → Fed tale (tick_to now s)
  unfolding tick_to
  tick_to-fed now s h = each_conn-fed close_idle_conn close_idle_conn-fed _ _ marked
    where
      marked : Fed tale (record (renew_marks now (marks_anew now s)) { clock = now; is_ticked = true; has_lost_draft = false })
      marked = fed (facts_of (renew_marks-fed now _ (marks_anew-fed now s h)))

  pub tick-fed : (now : ℕ) (s : State) → Fed tale s → Fed tale (tick now s)
  unfolding tick
  tick-fed now s h = tick_to-fed (max s.clock now) s h

rested_same : (s : State) (e : Exchange) → SameExchange (rested_exchange s e) e
rested_same s e = by e.body refl
  where
    by : (body : Body) → e.body ≡ body → SameExchange (elim (bound_in body) as (λ y. Exchange) [ None ↦ e | Some b ↦ record e { body = Joining (wanted_to s b) } ]) e
    by Pending is = exchange_same e
    by (Joining b) is = record { number = refl; asker = λ m has. has; headed = sym (ap (λ x. not (is_pending x)) is); place = λ on none. none }
    by Relaying is = exchange_same e
    by Dropping is = exchange_same e

module _ {tale : Tale} where
  pub rest_with-fed : (w : Wants) (s : State) → Fed tale s → Fed tale (rest_with w s)
  unfolding rest_with
  rest_with-fed w s h =
      fed (exchanges_mapped (record s { clients = map (rested_client s) s.clients; conns = map (rested_conn s w) s.conns; instances = map rested_instance s.instances }) (rested_exchange s) (rested_same s)
      (clients_mapped (record s { conns = map (rested_conn s w) s.conns; instances = map rested_instance s.instances }) (rested_client s) (λ c. parts_same _ c refl refl refl refl refl)
      (conns_mapped (record s { instances = map rested_instance s.instances }) (rested_conn s w) (λ k. record { number = refl; line = refl; answer = refl }) (facts_of h))))

  -- ---- what clients wait for and use

  regained-by : (c : Client) (held : Bool) → SameClient tale tale (elim held as (λ y. Client) [ true ↦ record c { course = anew c.course } | false ↦ c ]) c
  regained-by c true = parts_same _ c refl refl refl refl refl
  regained-by c false = client_same c

  pub regained-fed : (s : State) → Fed tale s → Fed tale (regained s)
  unfolding regained
  regained-fed s h = fed (clients_mapped s (regained_by s) (λ c. regained-by c (is_regained s c)) (facts_of h))

  pub use_said-fed : (n : ℕ) (c : Client) (s : State) → Fed tale s → Fed tale (use_said n c s)
  use_said-fed n c s h = still (use_said-same n c s (itself s)) h

  pub close_finished-fed : (c : Client) (s : State) → Fed tale s → Fed tale (close_finished c s)
  unfolding close_finished
  close_finished-fed c s h = when (is_finished c) (close_client-fed c.number false s h) h

  pub enter_row-fed : (c : Client) (d : Decision) (s : State) → Fed tale s → Fed tale (enter_row c d s)
  enter_row-fed c d s h = still (enter_row-same c d s (itself s)) h
