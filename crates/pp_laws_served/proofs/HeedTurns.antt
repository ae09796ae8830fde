-- The phases of a turn, its clock and its end leave clients at their requests.
use Rattle.std.proofs.Common.{refl, ℕ, zero, suc, ◌+◌, ◌/◌, max, nat_lt, Bool, true, false, not, ◌&&◌, List, [], ◌∷◌}
use Rattle.pp_world.specs.declared.event.Wants.{Wants}
use Rattle.pp_law.specs.Chunks.{chunk_len}
use Rattle.pp_law.specs.Connections.{front_of_line, anew}
use Rattle.pp_law.specs.Deciding.{is_for_memory, mark_row_of, enter_row}
use Rattle.pp_law.specs.Offers.{has_to_say}
use Rattle.pp_law.specs.Opening.{is_at}
use Rattle.pp_law.specs.Phases.{phases, in_phase, behind, next, is_done, come, come_to, decides, come_to_decide, deciding}
use Rattle.pp_law.specs.Replies.{use_chunks, use_from, use_said, of_body, is_finished, close_finished, is_regained, regained_by, regained}
use Rattle.pp_law.specs.Requests.{key_in}
use Rattle.pp_law.specs.State.{State, Phase, Before, IsWoken, IsConfigured, IsRooted, IsListed, IsListening, IsStuck, Awaiting, Handling, Evicting, Keeping, Deciding, Following, Connecting, DecidingAgain, Client, Conn}
use Rattle.pp_law.specs.Table.{Next, next_of, row}
use Rattle.pp_law.specs.Turn.{waits_for_exchange, marked_client, marked_conn, touch, is_leap, marks_anew, is_idle_conn, owes_answer, end_patience, close_idle_conn, woken_client, renew_marks, tick_to, tick, rested_client, rest_with}
use Rattle.pp_law.specs.Lists.{Bytes}
use Rattle.pp_law.specs.Unseen.{is_unseen, drop_on, drop_unseen}
use Rattle.pp_target.specs.Key.{text_of}
use Rattle.pp_world.specs.declared.note.Decision.{Decision}
use Rattle.pp_laws_served.proofs.Cases.{each_of, when}
use Rattle.pp_laws_served.proofs.Heed.{Still, Heeds, as_it_was, clients_mapped, facts_of, heeds, still_same}
use Rattle.pp_laws_served.proofs.HeedAsks.{close_client-heeds, close_conn-heeds, each_conn-heeds, end_exchange-heeds, fail-heeds, fill-heeds, give_up_asks-heeds, on_client-heeds, on_conn-heeds, placing-heeds}
use Rattle.pp_laws_served.proofs.HeedRows.{enter-heeds, mark_row-heeds, use_chunk-heeds}

drop_on-heeds : {o : State} (k : Conn) (s : State) → Heeds o s → Heeds o (drop_on k s)
unfolding drop_on
drop_on-heeds k s h = each_of (front_of_line s k) h (λ e. when (is_unseen s k e) (close_conn-heeds false k _ (end_exchange-heeds e.number s h)) h)

drop_unseen-heeds : {o : State} (s : State) → Heeds o s → Heeds o (drop_unseen s)
unfolding drop_unseen
drop_unseen-heeds s h = each_conn-heeds drop_on drop_on-heeds _ s h

-- ---- phases

pub in_phase-heeds : {o : State} (phase : Phase) (s : State) → Heeds o s → Heeds o (in_phase phase s)
in_phase-heeds phase s h = heeds (facts_of h)

behind-heeds : {o : State} (phase : Phase) (s : State) → Heeds o s → Heeds o (behind phase s)
behind-heeds Before s h = h
behind-heeds IsWoken s h = h
behind-heeds IsConfigured s h = h
behind-heeds IsRooted s h = h
behind-heeds IsListed s h = h
behind-heeds IsListening s h = h
behind-heeds IsStuck s h = h
behind-heeds Awaiting s h = h
behind-heeds Handling s h = in_phase-heeds Evicting s h
behind-heeds Evicting s h = give_up_asks-heeds _ (in_phase-heeds Keeping s h)
behind-heeds Keeping s h = in_phase-heeds Deciding s h
behind-heeds Deciding s h = in_phase-heeds Following s h
behind-heeds Following s h = fill-heeds _ (give_up_asks-heeds _ (drop_unseen-heeds _ (in_phase-heeds Connecting s h)))
behind-heeds Connecting s h = placing-heeds _ (in_phase-heeds DecidingAgain s h)
behind-heeds DecidingAgain s h = h

pub next-heeds : {o : State} (s : State) → Heeds o s → Heeds o (next s)
unfolding next
next-heeds s h = behind-heeds s.phase s h

come-heeds : {o : State} (stops : State → Bool) (ps : List Phase) (s : State) → Heeds o s → Heeds o (come stops ps s)
unfolding come
come-heeds stops [] s h = h
come-heeds stops (p ∷ ps) s h = come-heeds stops ps _ (when (is_at p s) (when (stops s) h (when (is_done s) (next-heeds s h) h)) h)

pub come_to-heeds : {o : State} (phase : Phase) (s : State) → Heeds o s → Heeds o (come_to phase s)
unfolding come_to
come_to-heeds phase s h = come-heeds (is_at phase) phases s h

pub come_to_decide-heeds : {o : State} (s : State) → Heeds o s → Heeds o (come_to_decide s)
unfolding come_to_decide
come_to_decide-heeds s h = come-heeds decides phases s h

pub deciding-heeds : {o : State} (s : State) → Heeds o s → Heeds o (deciding s)
unfolding deciding
deciding-heeds s h = in_phase-heeds Deciding _ (come_to_decide-heeds s h)

-- ---- marks, and the clock

pub touch-heeds : {o : State} (n : ℕ) (s : State) → Heeds o s → Heeds o (touch n s)
unfolding touch
touch-heeds n s h = on_conn-heeds n (marked_conn s.clock) _ (on_client-heeds n (marked_client s.clock) s (λ c. as_it_was _ c refl refl refl (λ is. is) refl refl) h)

marks_anew-heeds : {o : State} (now : ℕ) (s : State) → Heeds o s → Heeds o (marks_anew now s)
unfolding marks_anew
marks_anew-heeds {o} now s h = when (is_leap now s) (heeds (clients_mapped o s (marked_client now) (λ c. as_it_was _ c refl refl refl (λ is. is) refl refl) (facts_of h))) h

end_patience-heeds : {o : State} (k : Conn) (s : State) → Heeds o s → Heeds o (end_patience k s)
unfolding end_patience
end_patience-heeds k s h = when (owes_answer s k) (each_of (front_of_line s k) h (λ e. fail-heeds e s h)) h

close_idle_conn-heeds : {o : State} (k : Conn) (s : State) → Heeds o s → Heeds o (close_idle_conn k s)
unfolding close_idle_conn
close_idle_conn-heeds k s h = when (is_idle_conn s k) (close_conn-heeds true k _ (end_patience-heeds k s h)) h

woken-by : (now : ℕ) (c : Client) (woken : Bool) → Still (elim woken as (λ x. Client) [ true ↦ marked_client now c | false ↦ c ]) c
woken-by now c true = as_it_was _ c refl refl refl (λ is. is) refl refl
woken-by now c false = still_same c

renew_marks-heeds : {o : State} (now : ℕ) (s : State) → Heeds o s → Heeds o (renew_marks now s)
unfolding renew_marks
renew_marks-heeds {o} now s h = heeds (clients_mapped o s (woken_client now s) (λ c. woken-by now c (waits_for_exchange s c && not (has_to_say s c))) (facts_of h))

tick_to-heeds : {o : State} (now : ℕ) (s : State) → Heeds o s → Heeds o (tick_to now s)
unfolding tick_to
tick_to-heeds {o} now s h = each_conn-heeds close_idle_conn close_idle_conn-heeds _ _ marked
  where
    marked : Heeds o (record (renew_marks now (marks_anew now s)) { clock = now; is_ticked = true; has_lost_draft = false })
    marked = heeds (facts_of (renew_marks-heeds now _ (marks_anew-heeds now s h)))

pub tick-heeds : {o : State} (now : ℕ) (s : State) → Heeds o s → Heeds o (tick now s)
unfolding tick
tick-heeds now s h = tick_to-heeds (max s.clock now) s h

pub rest_with-heeds : {o : State} (w : Wants) (s : State) → Heeds o s → Heeds o (rest_with w s)
unfolding rest_with
rest_with-heeds {o} w s h =
    heeds (clients_mapped o s (rested_client s) (λ c. as_it_was _ c refl refl refl (λ is. is) refl refl) (facts_of h))

-- ---- what clients wait for and use

regained-by : (c : Client) (held : Bool) → Still (elim held as (λ y. Client) [ true ↦ record c { course = anew c.course } | false ↦ c ]) c
regained-by c true = as_it_was _ c refl refl refl (λ is. is) refl refl
regained-by c false = still_same c

pub regained-heeds : {o : State} (s : State) → Heeds o s → Heeds o (regained s)
unfolding regained
regained-heeds {o} s h = heeds (clients_mapped o s (regained_by s) (λ c. regained-by c (is_regained s c)) (facts_of h))

use_chunks-heeds : {o : State} (more id i : ℕ) (s : State) → Heeds o s → Heeds o (use_chunks more id i s)
unfolding use_chunks
use_chunks-heeds zero id i s h = h
use_chunks-heeds (suc more) id i s h = use_chunks-heeds more id (i + 1) _ (use_chunk-heeds id i s h)

use_from-heeds : {o : State} (n : ℕ) (x : Next) (s : State) → Heeds o s → Heeds o (use_from n x s)
unfolding use_from
use_from-heeds n x s h = use_chunks-heeds _ x.source.id (x.at / chunk_len) s h

pub use_said-heeds : {o : State} (n : ℕ) (c : Client) (s : State) → Heeds o s → Heeds o (use_said n c s)
unfolding use_said
use_said-heeds n c s h = when (nat_lt 0 (of_body n c)) (each_of (next_of s c) h (λ x. use_from-heeds (of_body n c) x s h)) h

pub close_finished-heeds : {o : State} (c : Client) (s : State) → Heeds o s → Heeds o (close_finished c s)
unfolding close_finished
close_finished-heeds c s h = when (is_finished c) (close_client-heeds c.number false s h) h

mark_row_of-heeds : {o : State} (key : Bytes) (s : State) → Heeds o s → Heeds o (mark_row_of key s)
unfolding mark_row_of
mark_row_of-heeds key s h = each_of (row s key) h (λ x. mark_row-heeds x.id s h)

pub enter_row-heeds : {o : State} (c : Client) (d : Decision) (s : State) → Heeds o s → Heeds o (enter_row c d s)
unfolding enter_row
enter_row-heeds c d s h = when (is_for_memory d) h (each_of (key_in c.front) h (λ key. mark_row_of-heeds (text_of key) _ (enter-heeds (text_of key) false s h)))
