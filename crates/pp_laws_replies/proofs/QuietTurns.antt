-- The phases of a turn, its clock and its end leave what was said of each reply as it is.
use Rattle.std.proofs.Common.{refl, ℕ, zero, suc, ◌+◌, ◌/◌, max, nat_lt, Bool, true, false, not, ◌&&◌, List, [], ◌∷◌, map}
use Rattle.pp_world.specs.declared.event.Wants.{Wants}
use Rattle.pp_law.specs.Chunks.{chunk_len}
use Rattle.pp_law.specs.Connections.{front_of_line, anew}
use Rattle.pp_law.specs.Deciding.{is_for_memory, mark_row_of, enter_row}
use Rattle.pp_law.specs.Offers.{has_to_say}
use Rattle.pp_law.specs.Opening.{is_at}
use Rattle.pp_law.specs.Phases.{phases, in_phase, behind, next, is_done, come, come_to, decides, come_to_decide, deciding}
use Rattle.pp_law.specs.Replies.{use_chunks, use_from, use_said, of_body, is_finished, close_finished, is_regained, regained_by, regained}
use Rattle.pp_law.specs.Requests.{key_in}
use Rattle.pp_law.specs.State.{State, Phase, Before, IsWoken, IsConfigured, IsRooted, IsListed, IsListening, IsStuck, Awaiting, Handling, Evicting, Keeping, Deciding, Following, Connecting, DecidingAgain, Client, Conn}
use Rattle.pp_law.specs.Table.{Next, next_of, row}
use Rattle.pp_law.specs.Turn.{waits_for_exchange, marked_client, marked_conn, touch, is_leap, marks_anew, is_idle_conn, owes_answer, end_patience, close_idle_conn, woken_client, renew_marks, tick_to, tick, rested_client, rested_instance, rest_with}
use Rattle.pp_law.specs.Lists.{Bytes}
use Rattle.pp_law.specs.Unseen.{is_unseen, drop_on, drop_unseen}
use Rattle.pp_target.specs.Key.{text_of}
use Rattle.pp_world.specs.declared.note.Decision.{Decision}
use Rattle.pp_laws_replies.proofs.Cases.{each_of, when}
use Rattle.pp_laws_replies.proofs.Quiet.{Quiet, Quietly, clients_mapped, facts_of, quietly, rows_mapped, still_same}
use Rattle.pp_laws_replies.proofs.QuietAsks.{close_client-quiet, close_conn-quiet, each_conn-quiet, end_exchange-quiet, fail-quiet, fill-quiet, give_up_asks-quiet, on_client-quiet, on_conn-quiet, parts_same, placing-quiet}
use Rattle.pp_laws_replies.proofs.QuietRows.{enter-quiet, mark_row-quiet, use_chunk-quiet}

drop_on-quiet : {o : State} (k : Conn) (s : State) → Quietly o s → Quietly o (drop_on k s)
unfolding drop_on
drop_on-quiet k s h = each_of (front_of_line s k) h (λ e. when (is_unseen s k e) (close_conn-quiet false k _ (end_exchange-quiet e.number s h)) h)

drop_unseen-quiet : {o : State} (s : State) → Quietly o s → Quietly o (drop_unseen s)
unfolding drop_unseen
drop_unseen-quiet s h = each_conn-quiet drop_on drop_on-quiet _ s h

-- ---- phases

pub in_phase-quiet : {o : State} (phase : Phase) (s : State) → Quietly o s → Quietly o (in_phase phase s)
in_phase-quiet phase s h = quietly (facts_of h)

behind-quiet : {o : State} (phase : Phase) (s : State) → Quietly o s → Quietly o (behind phase s)
behind-quiet Before s h = h
behind-quiet IsWoken s h = h
behind-quiet IsConfigured s h = h
behind-quiet IsRooted s h = h
behind-quiet IsListed s h = h
behind-quiet IsListening s h = h
behind-quiet IsStuck s h = h
behind-quiet Awaiting s h = h
behind-quiet Handling s h = in_phase-quiet Evicting s h
behind-quiet Evicting s h = give_up_asks-quiet _ (in_phase-quiet Keeping s h)
behind-quiet Keeping s h = in_phase-quiet Deciding s h
behind-quiet Deciding s h = in_phase-quiet Following s h
behind-quiet Following s h = fill-quiet _ (give_up_asks-quiet _ (drop_unseen-quiet _ (in_phase-quiet Connecting s h)))
behind-quiet Connecting s h = placing-quiet _ (in_phase-quiet DecidingAgain s h)
behind-quiet DecidingAgain s h = h

next-quiet : {o : State} (s : State) → Quietly o s → Quietly o (next s)
unfolding next
next-quiet s h = behind-quiet s.phase s h

come-quiet : {o : State} (stops : State → Bool) (ps : List Phase) (s : State) → Quietly o s → Quietly o (come stops ps s)
unfolding come
come-quiet stops [] s h = h
come-quiet stops (p ∷ ps) s h = come-quiet stops ps _ (when (is_at p s) (when (stops s) h (when (is_done s) (next-quiet s h) h)) h)

pub come_to-quiet : {o : State} (phase : Phase) (s : State) → Quietly o s → Quietly o (come_to phase s)
unfolding come_to
come_to-quiet phase s h = come-quiet (is_at phase) phases s h

pub come_to_decide-quiet : {o : State} (s : State) → Quietly o s → Quietly o (come_to_decide s)
unfolding come_to_decide
come_to_decide-quiet s h = come-quiet decides phases s h

pub deciding-quiet : {o : State} (s : State) → Quietly o s → Quietly o (deciding s)
unfolding deciding
deciding-quiet s h = in_phase-quiet Deciding _ (come_to_decide-quiet s h)

-- ---- marks, and the clock

pub touch-quiet : {o : State} (n : ℕ) (s : State) → Quietly o s → Quietly o (touch n s)
unfolding touch
touch-quiet n s h = on_conn-quiet n (marked_conn s.clock) _ (on_client-quiet n (marked_client s.clock) s (λ c. parts_same _ c refl refl refl refl refl refl refl refl refl) h)

marks_anew-quiet : {o : State} (now : ℕ) (s : State) → Quietly o s → Quietly o (marks_anew now s)
unfolding marks_anew
marks_anew-quiet {o} now s h = when (is_leap now s) (quietly (clients_mapped o s (marked_client now) (λ c. parts_same _ c refl refl refl refl refl refl refl refl refl) (facts_of h))) h

end_patience-quiet : {o : State} (k : Conn) (s : State) → Quietly o s → Quietly o (end_patience k s)
unfolding end_patience
end_patience-quiet k s h = when (owes_answer s k) (each_of (front_of_line s k) h (λ e. fail-quiet e s h)) h

close_idle_conn-quiet : {o : State} (k : Conn) (s : State) → Quietly o s → Quietly o (close_idle_conn k s)
unfolding close_idle_conn
close_idle_conn-quiet k s h = when (is_idle_conn s k) (close_conn-quiet true k _ (end_patience-quiet k s h)) h

woken-by : (now : ℕ) (c : Client) (woken : Bool) → Quiet (elim woken as (λ x. Client) [ true ↦ marked_client now c | false ↦ c ]) c
woken-by now c true = parts_same _ c refl refl refl refl refl refl refl refl refl
woken-by now c false = still_same c

renew_marks-quiet : {o : State} (now : ℕ) (s : State) → Quietly o s → Quietly o (renew_marks now s)
unfolding renew_marks
renew_marks-quiet {o} now s h = quietly (clients_mapped o s (woken_client now s) (λ c. woken-by now c (waits_for_exchange s c && not (has_to_say s c))) (facts_of h))

tick_to-quiet : {o : State} (now : ℕ) (s : State) → Quietly o s → Quietly o (tick_to now s)
unfolding tick_to
tick_to-quiet {o} now s h = each_conn-quiet close_idle_conn close_idle_conn-quiet _ _ marked
  where
    marked : Quietly o (record (renew_marks now (marks_anew now s)) { clock = now; is_ticked = true; has_lost_draft = false })
    marked = quietly (facts_of (renew_marks-quiet now _ (marks_anew-quiet now s h)))

pub tick-quiet : {o : State} (now : ℕ) (s : State) → Quietly o s → Quietly o (tick now s)
unfolding tick
tick-quiet now s h = tick_to-quiet (max s.clock now) s h

pub rest_with-quiet : {o : State} (w : Wants) (s : State) → Quietly o s → Quietly o (rest_with w s)
unfolding rest_with
rest_with-quiet {o} w s h =
    quietly (clients_mapped o (record s { instances = map rested_instance s.instances }) (rested_client s) (λ c. parts_same _ c refl refl refl refl refl refl refl refl refl)
    (rows_mapped o s rested_instance (λ x. record { id = refl; version = refl }) (facts_of h)))

-- ---- what clients wait for and use

regained-by : (c : Client) (held : Bool) → Quiet (elim held as (λ y. Client) [ true ↦ record c { course = anew c.course } | false ↦ c ]) c
regained-by c true = parts_same _ c refl refl refl refl refl refl refl refl refl
regained-by c false = still_same c

pub regained-quiet : {o : State} (s : State) → Quietly o s → Quietly o (regained s)
unfolding regained
regained-quiet {o} s h = quietly (clients_mapped o s (regained_by s) (λ c. regained-by c (is_regained s c)) (facts_of h))

use_chunks-quiet : {o : State} (more id i : ℕ) (s : State) → Quietly o s → Quietly o (use_chunks more id i s)
unfolding use_chunks
use_chunks-quiet zero id i s h = h
use_chunks-quiet (suc more) id i s h = use_chunks-quiet more id (i + 1) _ (use_chunk-quiet id i s h)

use_from-quiet : {o : State} (n : ℕ) (x : Next) (s : State) → Quietly o s → Quietly o (use_from n x s)
unfolding use_from
use_from-quiet n x s h = use_chunks-quiet _ x.source.id (x.at / chunk_len) s h

pub use_said-quiet : {o : State} (n : ℕ) (c : Client) (s : State) → Quietly o s → Quietly o (use_said n c s)
unfolding use_said
use_said-quiet n c s h = when (nat_lt 0 (of_body n c)) (each_of (next_of s c) h (λ x. use_from-quiet (of_body n c) x s h)) h

pub close_finished-quiet : {o : State} (c : Client) (s : State) → Quietly o s → Quietly o (close_finished c s)
unfolding close_finished
close_finished-quiet c s h = when (is_finished c) (close_client-quiet c.number false s h) h

mark_row_of-quiet : {o : State} (key : Bytes) (s : State) → Quietly o s → Quietly o (mark_row_of key s)
unfolding mark_row_of
mark_row_of-quiet key s h = each_of (row s key) h (λ x. mark_row-quiet x.id s h)

pub enter_row-quiet : {o : State} (c : Client) (d : Decision) (s : State) → Quietly o s → Quietly o (enter_row c d s)
unfolding enter_row
enter_row-quiet c d s h = when (is_for_memory d) h (each_of (key_in c.front) h (λ key. mark_row_of-quiet (text_of key) _ (enter-quiet (text_of key) false s h)))
