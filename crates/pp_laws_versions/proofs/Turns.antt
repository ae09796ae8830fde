-- The phases of a turn, its clock and its end keep it.
use Rattle.std.proofs.Common.{ℕ, zero, suc, ◌+◌, ◌/◌, max, nat_lt, Bool, true, false, List, [], ◌∷◌, refl}
use Rattle.pp_world.specs.declared.event.Wants.{Wants}
use Rattle.pp_law.specs.Chunks.{chunk_len}
use Rattle.pp_law.specs.Connections.{front_of_line}
use Rattle.pp_law.specs.Deciding.{is_for_memory, mark_row_of, enter_row}
use Rattle.pp_law.specs.Opening.{is_at}
use Rattle.pp_law.specs.Phases.{phases, in_phase, behind, next, is_done, come, come_to, decides, come_to_decide, deciding}
use Rattle.pp_law.specs.Replies.{use_chunks, use_from, use_said, of_body, is_finished, close_finished, regained}
use Rattle.pp_law.specs.Requests.{key_in}
use Rattle.pp_law.specs.State.{State, Phase, Before, IsWoken, IsConfigured, IsRooted, IsListed, IsListening, IsStuck, Awaiting, Handling, Evicting, Keeping, Deciding, Following, Connecting, DecidingAgain, Client, Conn}
use Rattle.pp_law.specs.Table.{Next, next_of, row}
use Rattle.pp_law.specs.Turn.{marked_client, marked_conn, touch, is_leap, marks_anew, is_idle_conn, owes_answer, end_patience, close_idle_conn, renew_marks, tick_to, tick, rested_instance, rest_with}
use Rattle.pp_law.specs.Lists.{Bytes}
use Rattle.pp_law.specs.Unseen.{is_unseen, drop_on, drop_unseen}
use Rattle.pp_target.specs.Key.{text_of}
use Rattle.pp_world.specs.declared.note.Decision.{Decision}
use Rattle.pp_laws_versions.proofs.Asks.{close_client-keeps, close_conn-keeps, each_conn-keeps, end_exchange-keeps, fail-keeps, fill-keeps, give_up_asks-keeps, on_client-keeps, on_conn-keeps, placing-keeps}
use Rattle.pp_laws_versions.proofs.Cases.{each_of, when}
use Rattle.pp_laws_versions.proofs.Rows.{enter-keeps, mark_row-keeps, use_chunk-keeps}
use Rattle.pp_laws.proofs.Lists.{differ_map}
use Rattle.pp_laws.proofs.Sound.{instance_id}
use Rattle.pp_laws_versions.proofs.Chunks.{fewer_same}
use Rattle.pp_laws_versions.proofs.View.{Holds, Like, facts_of, few_mapped, fewer, holds, same_entries}

drop_on-keeps : {R : Like} (k : Conn) (s : State) → Holds R s → Holds R (drop_on k s)
unfolding drop_on
drop_on-keeps k s h = each_of (front_of_line s k) h (λ e. when (is_unseen s k e) (close_conn-keeps false k _ (end_exchange-keeps e.number s h)) h)

drop_unseen-keeps : {R : Like} (s : State) → Holds R s → Holds R (drop_unseen s)
unfolding drop_unseen
drop_unseen-keeps s h = each_conn-keeps drop_on drop_on-keeps _ s h

-- ---- phases

pub in_phase-keeps : {R : Like} (phase : Phase) (s : State) → Holds R s → Holds R (in_phase phase s)
in_phase-keeps phase s h = holds (facts_of h)

behind-keeps : {R : Like} (phase : Phase) (s : State) → Holds R s → Holds R (behind phase s)
behind-keeps Before s h = h
behind-keeps IsWoken s h = h
behind-keeps IsConfigured s h = h
behind-keeps IsRooted s h = h
behind-keeps IsListed s h = h
behind-keeps IsListening s h = h
behind-keeps IsStuck s h = h
behind-keeps Awaiting s h = h
behind-keeps Handling s h = in_phase-keeps Evicting s h
behind-keeps Evicting s h = give_up_asks-keeps _ (in_phase-keeps Keeping s h)
behind-keeps Keeping s h = in_phase-keeps Deciding s h
behind-keeps Deciding s h = in_phase-keeps Following s h
behind-keeps Following s h = fill-keeps _ (give_up_asks-keeps _ (drop_unseen-keeps _ (in_phase-keeps Connecting s h)))
behind-keeps Connecting s h = placing-keeps _ (in_phase-keeps DecidingAgain s h)
behind-keeps DecidingAgain s h = h

pub next-keeps : {R : Like} (s : State) → Holds R s → Holds R (next s)
unfolding next
next-keeps s h = behind-keeps s.phase s h

come-keeps : {R : Like} (stops : State → Bool) (ps : List Phase) (s : State) → Holds R s → Holds R (come stops ps s)
unfolding come
come-keeps stops [] s h = h
come-keeps stops (p ∷ ps) s h = come-keeps stops ps _ (when (is_at p s) (when (stops s) h (when (is_done s) (next-keeps s h) h)) h)

pub come_to-keeps : {R : Like} (phase : Phase) (s : State) → Holds R s → Holds R (come_to phase s)
unfolding come_to
come_to-keeps phase s h = come-keeps (is_at phase) phases s h

pub come_to_decide-keeps : {R : Like} (s : State) → Holds R s → Holds R (come_to_decide s)
unfolding come_to_decide
come_to_decide-keeps s h = come-keeps decides phases s h

pub deciding-keeps : {R : Like} (s : State) → Holds R s → Holds R (deciding s)
unfolding deciding
deciding-keeps s h = in_phase-keeps Deciding _ (come_to_decide-keeps s h)

-- ---- marks, and the clock

pub touch-keeps : {R : Like} (n : ℕ) (s : State) → Holds R s → Holds R (touch n s)
unfolding touch
touch-keeps n s h = on_conn-keeps n (marked_conn s.clock) _ (on_client-keeps n (marked_client s.clock) s h)

marks_anew-keeps : {R : Like} (now : ℕ) (s : State) → Holds R s → Holds R (marks_anew now s)
unfolding marks_anew
marks_anew-keeps now s h = when (is_leap now s) (holds (facts_of h)) h

end_patience-keeps : {R : Like} (k : Conn) (s : State) → Holds R s → Holds R (end_patience k s)
unfolding end_patience
end_patience-keeps k s h = when (owes_answer s k) (each_of (front_of_line s k) h (λ e. fail-keeps e s h)) h

close_idle_conn-keeps : {R : Like} (k : Conn) (s : State) → Holds R s → Holds R (close_idle_conn k s)
unfolding close_idle_conn
close_idle_conn-keeps k s h = when (is_idle_conn s k) (close_conn-keeps true k _ (end_patience-keeps k s h)) h

renew_marks-keeps : {R : Like} (now : ℕ) (s : State) → Holds R s → Holds R (renew_marks now s)
unfolding renew_marks
renew_marks-keeps now s h = holds (facts_of h)

tick_to-keeps : {R : Like} (now : ℕ) (s : State) → Holds R s → Holds R (tick_to now s)
unfolding tick_to
tick_to-keeps {R} now s h = each_conn-keeps close_idle_conn close_idle_conn-keeps _ _ marked
  where
    marked : Holds R (record (renew_marks now (marks_anew now s)) { clock = now; is_ticked = true; has_lost_draft = false })
    marked = holds (facts_of (renew_marks-keeps now _ (marks_anew-keeps now s h)))

pub tick-keeps : {R : Like} (now : ℕ) (s : State) → Holds R s → Holds R (tick now s)
unfolding tick
tick-keeps now s h = tick_to-keeps (max s.clock now) s h

pub rest_with-keeps : {R : Like} (w : Wants) (s : State) → Holds R s → Holds R (rest_with w s)
unfolding rest_with
rest_with-keeps w s h = holds (fewer s.instances _ s.entries _ s.agenda.todo s.chunks _ s.next_instance (few_mapped rested_instance s.instances (λ x. refl) (λ x. refl) (λ x. refl) (λ x is. is)) (same_entries s.entries) (differ_map instance_id rested_instance (λ x. refl) s.instances (facts_of h).differ) (fewer_same s.chunks) (λ c i. i) (facts_of h))

-- ---- what clients wait for and use

pub regained-keeps : {R : Like} (s : State) → Holds R s → Holds R (regained s)
unfolding regained
regained-keeps s h = holds (facts_of h)

use_chunks-keeps : {R : Like} (more id i : ℕ) (s : State) → Holds R s → Holds R (use_chunks more id i s)
unfolding use_chunks
use_chunks-keeps zero id i s h = h
use_chunks-keeps (suc more) id i s h = use_chunks-keeps more id (i + 1) _ (use_chunk-keeps id i s h)

use_from-keeps : {R : Like} (n : ℕ) (x : Next) (s : State) → Holds R s → Holds R (use_from n x s)
unfolding use_from
use_from-keeps n x s h = use_chunks-keeps _ x.source.id (x.at / chunk_len) s h

pub use_said-keeps : {R : Like} (n : ℕ) (c : Client) (s : State) → Holds R s → Holds R (use_said n c s)
unfolding use_said
use_said-keeps n c s h = when (nat_lt 0 (of_body n c)) (each_of (next_of s c) h (λ x. use_from-keeps (of_body n c) x s h)) h

pub close_finished-keeps : {R : Like} (c : Client) (s : State) → Holds R s → Holds R (close_finished c s)
unfolding close_finished
close_finished-keeps c s h = when (is_finished c) (close_client-keeps c.number false s h) h

mark_row_of-keeps : {R : Like} (key : Bytes) (s : State) → Holds R s → Holds R (mark_row_of key s)
unfolding mark_row_of
mark_row_of-keeps key s h = each_of (row s key) h (λ x. mark_row-keeps x.id s h)

pub enter_row-keeps : {R : Like} (c : Client) (d : Decision) (s : State) → Holds R s → Holds R (enter_row c d s)
unfolding enter_row
enter_row-keeps c d s h = when (is_for_memory d) h (each_of (key_in c.front) h (λ key. mark_row_of-keeps (text_of key) _ (enter-keeps (text_of key) false s h)))
