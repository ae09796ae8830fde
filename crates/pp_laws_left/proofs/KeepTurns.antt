-- The phases of a turn, its clock and its end leave clients at their requests.
use Rattle.std.proofs.Common.{◌≡◌, refl, ℕ, zero, suc, ◌+◌, ◌/◌, max, nat_lt, Bool, true, false, not, ◌&&◌, List, [], ◌∷◌}
use Rattle.pp_law.specs.Chunks.{chunk_len}
use Rattle.pp_law.specs.Connections.{front_of_line, anew}
use Rattle.pp_law.specs.Deciding.{is_for_memory, mark_row_of, enter_row}
use Rattle.pp_law.specs.Offers.{has_to_say}
use Rattle.pp_law.specs.Opening.{is_at}
use Rattle.pp_law.specs.Phases.{phases, in_phase, behind, next, is_done, come, come_to, decides, come_to_decide, deciding}
use Rattle.pp_law.specs.Replies.{use_chunks, use_from, use_said, of_body, is_finished, close_finished, is_regained, regained_by, regained}
use Rattle.pp_law.specs.Requests.{key_in}
use Rattle.pp_law.specs.State.{State, Phase, Before, IsWoken, IsConfigured, IsRooted, IsListed, IsListening, IsStuck, Awaiting, Handling, Evicting, Keeping, Deciding, Following, Connecting, DecidingAgain, Client, Conn}
use Rattle.pp_law.specs.Table.{Next, next_of, row}
use Rattle.pp_law.specs.Turn.{waits_for_exchange, marked_client, marked_conn, touch, is_leap, marks_anew, is_idle_conn, owes_answer, end_patience, close_idle_conn, woken_client, renew_marks, tick_to, tick}
use Rattle.pp_law.specs.Lists.{Bytes}
use Rattle.pp_law.specs.Unseen.{is_unseen, drop_on, drop_unseen}
use Rattle.pp_target.specs.Key.{text_of}
use Rattle.pp_world.specs.declared.note.Decision.{Decision}
use Rattle.pp_laws_left.proofs.KeepCases.{each_of, when}
use Rattle.pp_laws_left.proofs.Keep.{Kept, Keeps, as_it_was, clients_mapped, facts_of, keeps, is_early, kept_same, rephased}
use Rattle.pp_laws_left.proofs.KeepAsks.{close_client-keeps, close_conn-keeps, each_conn-keeps, end_exchange-keeps, fail-keeps, fill-keeps, give_up_asks-keeps, on_client-keeps, on_conn-keeps, placing-keeps}
use Rattle.pp_laws_left.proofs.KeepRows.{enter-keeps, mark_row-keeps, use_chunk-keeps}

drop_on-keeps : {exact : Bool} {o : State} (k : Conn) (s : State) → Keeps exact o s → Keeps exact o (drop_on k s)
unfolding drop_on
drop_on-keeps k s h = each_of (front_of_line s k) h (λ e. when (is_unseen s k e) (close_conn-keeps false k _ (end_exchange-keeps e.number s h)) h)

pub drop_unseen-keeps : {exact : Bool} {o : State} (s : State) → Keeps exact o s → Keeps exact o (drop_unseen s)
unfolding drop_unseen
drop_unseen-keeps s h = each_conn-keeps drop_on drop_on-keeps _ s h

-- ---- phases

pub in_phase-keeps : {exact : Bool} {o : State} (phase : Phase) (s : State) → (phase ≡ Awaiting → ⊥) → is_early phase ≡ false → Keeps exact o s → Keeps exact o (in_phase phase s)
in_phase-keeps phase s isnt late h = keeps (rephased phase isnt late (facts_of h))

behind-keeps : {exact : Bool} {o : State} (phase : Phase) (s : State) → Keeps exact o s → Keeps exact o (behind phase s)
behind-keeps Before s h = h
behind-keeps IsWoken s h = h
behind-keeps IsConfigured s h = h
behind-keeps IsRooted s h = h
behind-keeps IsListed s h = h
behind-keeps IsListening s h = h
behind-keeps IsStuck s h = h
behind-keeps Awaiting s h = h
behind-keeps Handling s h = in_phase-keeps Evicting s (λ e. cc e) refl h
behind-keeps Evicting s h = give_up_asks-keeps _ (in_phase-keeps Keeping s (λ e. cc e) refl h)
behind-keeps Keeping s h = in_phase-keeps Deciding s (λ e. cc e) refl h
behind-keeps Deciding s h = in_phase-keeps Following s (λ e. cc e) refl h
behind-keeps Following s h = fill-keeps _ (give_up_asks-keeps _ (drop_unseen-keeps _ (in_phase-keeps Connecting s (λ e. cc e) refl h)))
behind-keeps Connecting s h = placing-keeps _ (in_phase-keeps DecidingAgain s (λ e. cc e) refl h)
behind-keeps DecidingAgain s h = h

pub next-keeps : {exact : Bool} {o : State} (s : State) → Keeps exact o s → Keeps exact o (next s)
unfolding next
next-keeps s h = behind-keeps s.phase s h

come-keeps : {exact : Bool} {o : State} (stops : State → Bool) (ps : List Phase) (s : State) → Keeps exact o s → Keeps exact o (come stops ps s)
unfolding come
come-keeps stops [] s h = h
come-keeps stops (p ∷ ps) s h = come-keeps stops ps _ (when (is_at p s) (when (stops s) h (when (is_done s) (next-keeps s h) h)) h)

pub come_to-keeps : {exact : Bool} {o : State} (phase : Phase) (s : State) → Keeps exact o s → Keeps exact o (come_to phase s)
unfolding come_to
come_to-keeps phase s h = come-keeps (is_at phase) phases s h

pub come_to_decide-keeps : {exact : Bool} {o : State} (s : State) → Keeps exact o s → Keeps exact o (come_to_decide s)
unfolding come_to_decide
come_to_decide-keeps s h = come-keeps decides phases s h

pub deciding-keeps : {exact : Bool} {o : State} (s : State) → Keeps exact o s → Keeps exact o (deciding s)
unfolding deciding
deciding-keeps s h = in_phase-keeps Deciding _ (λ e. cc e) refl (come_to_decide-keeps s h)

-- ---- marks, and the clock

pub touch-keeps : {exact : Bool} {o : State} (n : ℕ) (s : State) → Keeps exact o s → Keeps exact o (touch n s)
unfolding touch
touch-keeps n s h = on_conn-keeps n (marked_conn s.clock) _ (on_client-keeps n (marked_client s.clock) s (λ c. as_it_was _ c refl refl refl (λ is. is) refl) h)

marks_anew-keeps : {exact : Bool} {o : State} (now : ℕ) (s : State) → Keeps exact o s → Keeps exact o (marks_anew now s)
unfolding marks_anew
marks_anew-keeps {exact} {o} now s h = when (is_leap now s) (keeps (clients_mapped o s (marked_client now) (λ c. as_it_was _ c refl refl refl (λ is. is) refl) (facts_of h))) h

end_patience-keeps : {exact : Bool} {o : State} (k : Conn) (s : State) → Keeps exact o s → Keeps exact o (end_patience k s)
unfolding end_patience
end_patience-keeps k s h = when (owes_answer s k) (each_of (front_of_line s k) h (λ e. fail-keeps e s h)) h

close_idle_conn-keeps : {exact : Bool} {o : State} (k : Conn) (s : State) → Keeps exact o s → Keeps exact o (close_idle_conn k s)
unfolding close_idle_conn
close_idle_conn-keeps k s h = when (is_idle_conn s k) (close_conn-keeps true k _ (end_patience-keeps k s h)) h

woken-by : {exact : Bool} (now : ℕ) (c : Client) (woken : Bool) → Kept exact (elim woken as (λ x. Client) [ true ↦ marked_client now c | false ↦ c ]) c
woken-by now c true = as_it_was _ c refl refl refl (λ is. is) refl
woken-by now c false = kept_same c

renew_marks-keeps : {exact : Bool} {o : State} (now : ℕ) (s : State) → Keeps exact o s → Keeps exact o (renew_marks now s)
unfolding renew_marks
renew_marks-keeps {exact} {o} now s h = keeps (clients_mapped o s (woken_client now s) (λ c. woken-by now c (waits_for_exchange s c && not (has_to_say s c))) (facts_of h))

tick_to-keeps : {exact : Bool} {o : State} (now : ℕ) (s : State) → Keeps exact o s → Keeps exact o (tick_to now s)
unfolding tick_to
tick_to-keeps {exact} {o} now s h = each_conn-keeps close_idle_conn close_idle_conn-keeps _ _ marked
  where
    marked : Keeps exact o (record (renew_marks now (marks_anew now s)) { clock = now; is_ticked = true; has_lost_draft = false })
    marked = keeps (facts_of (renew_marks-keeps now _ (marks_anew-keeps now s h)))

pub tick-keeps : {exact : Bool} {o : State} (now : ℕ) (s : State) → Keeps exact o s → Keeps exact o (tick now s)
unfolding tick
tick-keeps now s h = tick_to-keeps (max s.clock now) s h

-- ---- what clients wait for and use

regained-by : {exact : Bool} (c : Client) (held : Bool) → Kept exact (elim held as (λ y. Client) [ true ↦ record c { course = anew c.course } | false ↦ c ]) c
regained-by c true = as_it_was _ c refl refl refl (λ is. is) refl
regained-by c false = kept_same c

pub regained-keeps : {exact : Bool} {o : State} (s : State) → Keeps exact o s → Keeps exact o (regained s)
unfolding regained
regained-keeps {exact} {o} s h = keeps (clients_mapped o s (regained_by s) (λ c. regained-by c (is_regained s c)) (facts_of h))

use_chunks-keeps : {exact : Bool} {o : State} (more id i : ℕ) (s : State) → Keeps exact o s → Keeps exact o (use_chunks more id i s)
unfolding use_chunks
use_chunks-keeps zero id i s h = h
use_chunks-keeps (suc more) id i s h = use_chunks-keeps more id (i + 1) _ (use_chunk-keeps id i s h)

use_from-keeps : {exact : Bool} {o : State} (n : ℕ) (x : Next) (s : State) → Keeps exact o s → Keeps exact o (use_from n x s)
unfolding use_from
use_from-keeps n x s h = use_chunks-keeps _ x.source.id (x.at / chunk_len) s h

pub use_said-keeps : {exact : Bool} {o : State} (n : ℕ) (c : Client) (s : State) → Keeps exact o s → Keeps exact o (use_said n c s)
unfolding use_said
use_said-keeps n c s h = when (nat_lt 0 (of_body n c)) (each_of (next_of s c) h (λ x. use_from-keeps (of_body n c) x s h)) h

pub close_finished-keeps : {exact : Bool} {o : State} (c : Client) (s : State) → Keeps exact o s → Keeps exact o (close_finished c s)
unfolding close_finished
close_finished-keeps c s h = when (is_finished c) (close_client-keeps c.number false s h) h

mark_row_of-keeps : {exact : Bool} {o : State} (key : Bytes) (s : State) → Keeps exact o s → Keeps exact o (mark_row_of key s)
unfolding mark_row_of
mark_row_of-keeps key s h = each_of (row s key) h (λ x. mark_row-keeps x.id s h)

pub enter_row-keeps : {exact : Bool} {o : State} (c : Client) (d : Decision) (s : State) → Keeps exact o s → Keeps exact o (enter_row c d s)
unfolding enter_row
enter_row-keeps c d s h = when (is_for_memory d) h (each_of (key_in c.front) h (λ key. mark_row_of-keeps (text_of key) _ (enter-keeps (text_of key) false s h)))
