-- The phases of a turn, its clock and its end keep which rows stand late.
use Rattle.std.proofs.Common.{◌≡◌, ℕ, zero, suc, ◌+◌, ◌/◌, max, nat_lt, not, bytes_eq, Bool, true, false, List, [], ◌∷◌, Some, refl, ap, ◌∙◌}
use Rattle.pp_world.specs.declared.event.Wants.{Wants}
use Rattle.pp_law.specs.Chunks.{chunk_len}
use Rattle.pp_law.specs.Connections.{front_of_line}
use Rattle.pp_law.specs.Deciding.{is_for_memory, mark_row_of, enter_row}
use Rattle.pp_law.specs.Opening.{is_at, is_same_phase}
use Rattle.pp_law.specs.Phases.{phases, in_phase, behind, next, is_done, come, come_to, decides, come_to_decide, deciding}
use Rattle.pp_law.specs.Replies.{use_chunks, use_from, use_said, of_body, is_finished, close_finished, regained}
use Rattle.pp_law.specs.Requests.{key_in}
use Rattle.pp_law.specs.State.{State, Phase, Before, IsWoken, IsConfigured, IsRooted, IsListed, IsListening, IsStuck, Awaiting, Handling, Evicting, Keeping, Deciding, Following, Connecting, DecidingAgain, Client, Conn, Instance}
use Rattle.pp_law.specs.Table.{Next, is_instance, is_row_of, next_of, row}
use Rattle.pp_law.specs.Turn.{marked_client, marked_conn, touch, is_leap, marks_anew, is_idle_conn, owes_answer, end_patience, close_idle_conn, renew_marks, tick_to, tick, rested_instance, rest_with}
use Rattle.pp_law.specs.Lists.{Bytes}
use Rattle.pp_law.specs.Unseen.{is_unseen, drop_on, drop_unseen}
use Rattle.pp_target.specs.Key.{Key, text_of}
use Rattle.pp_laws.proofs.Lists.{in_find, in_map, the_one}
use Rattle.pp_laws.proofs.Sound.{instance_id}
use Rattle.pp_laws.proofs.Tests.{same_bytes, same_number, second_holds}
use Rattle.pp_laws.specs.Runs.{IsIn}
use Rattle.pp_world.specs.declared.note.Decision.{Decision}
use Rattle.pp_rests_law.proofs.LateAsks.{close_client-keeps, close_conn-keeps, each_conn-keeps, end_exchange-keeps, fail-keeps, fill-keeps, give_up_asks-keeps, on_client-keeps, on_conn-keeps, placing-keeps}
use Rattle.pp_rests_law.proofs.LateCases.{each_of, each_so, when}
use Rattle.pp_rests_law.proofs.LateRows.{enter-keeps, mark_row-keeps, use_chunk-keeps}
use Rattle.pp_laws_fields.proofs.View.{own_mapped}
use Rattle.pp_rests_law.proofs.LateView.{Holds, IsAmid, Keys, MayCome, facts_of, holds, nothing}

drop_on-keeps : {late : Keys} (k : Conn) (s : State) → Holds late s → Holds late (drop_on k s)
unfolding drop_on
drop_on-keeps k s h = each_of (front_of_line s k) h (λ e. when (is_unseen s k e) (close_conn-keeps false k _ (end_exchange-keeps e.number s h)) h)

drop_unseen-keeps : {late : Keys} (s : State) → Holds late s → Holds late (drop_unseen s)
unfolding drop_unseen
drop_unseen-keeps s h = each_conn-keeps drop_on drop_on-keeps _ s h

-- ---- phases

another : (b : Bool) (p q : Phase) → is_same_phase Awaiting p ≡ false → IsAmid b q → IsAmid b p
another false p q isnt amid = tt
another true p q isnt amid = isnt

pub in_phase-keeps : {late : Keys} (phase : Phase) (s : State) → is_same_phase Awaiting phase ≡ false → Holds late s → Holds late (in_phase phase s)
in_phase-keeps {late} phase s isnt h = holds (record { own = (facts_of h).own; late = (facts_of h).late; amid = another late.is_amid phase s.phase isnt (facts_of h).amid; done = (facts_of h).done })

behind-keeps : {late : Keys} (phase : Phase) (s : State) → Holds late s → Holds late (behind phase s)
behind-keeps Before s h = h
behind-keeps IsWoken s h = h
behind-keeps IsConfigured s h = h
behind-keeps IsRooted s h = h
behind-keeps IsListed s h = h
behind-keeps IsListening s h = h
behind-keeps IsStuck s h = h
behind-keeps Awaiting s h = h
behind-keeps Handling s h = in_phase-keeps Evicting s refl h
behind-keeps Evicting s h = give_up_asks-keeps _ (in_phase-keeps Keeping s refl h)
behind-keeps Keeping s h = in_phase-keeps Deciding s refl h
behind-keeps Deciding s h = in_phase-keeps Following s refl h
behind-keeps Following s h = fill-keeps _ (give_up_asks-keeps _ (drop_unseen-keeps _ (in_phase-keeps Connecting s refl h)))
behind-keeps Connecting s h = placing-keeps _ (in_phase-keeps DecidingAgain s refl h)
behind-keeps DecidingAgain s h = h

pub next-keeps : {late : Keys} (s : State) → Holds late s → Holds late (next s)
unfolding next
next-keeps s h = behind-keeps s.phase s h

come-keeps : {late : Keys} (stops : State → Bool) (ps : List Phase) (s : State) → Holds late s → Holds late (come stops ps s)
unfolding come
come-keeps stops [] s h = h
come-keeps stops (p ∷ ps) s h = come-keeps stops ps _ (when (is_at p s) (when (stops s) h (when (is_done s) (next-keeps s h) h)) h)

pub come_to-keeps : {late : Keys} (phase : Phase) (s : State) → Holds late s → Holds late (come_to phase s)
unfolding come_to
come_to-keeps phase s h = come-keeps (is_at phase) phases s h

pub come_to_decide-keeps : {late : Keys} (s : State) → Holds late s → Holds late (come_to_decide s)
unfolding come_to_decide
come_to_decide-keeps s h = come-keeps decides phases s h

pub deciding-keeps : {late : Keys} (s : State) → Holds late s → Holds late (deciding s)
unfolding deciding
deciding-keeps s h = in_phase-keeps Deciding _ refl (come_to_decide-keeps s h)

-- ---- marks, and the clock

pub touch-keeps : {late : Keys} (n : ℕ) (s : State) → Holds late s → Holds late (touch n s)
unfolding touch
touch-keeps n s h = on_conn-keeps n (marked_conn s.clock) _ (on_client-keeps n (marked_client s.clock) s h)

marks_anew-keeps : {late : Keys} (now : ℕ) (s : State) → Holds late s → Holds late (marks_anew now s)
unfolding marks_anew
marks_anew-keeps now s h = when (is_leap now s) (holds (facts_of h)) h

end_patience-keeps : {late : Keys} (k : Conn) (s : State) → Holds late s → Holds late (end_patience k s)
unfolding end_patience
end_patience-keeps k s h = when (owes_answer s k) (each_of (front_of_line s k) h (λ e. fail-keeps e s h)) h

close_idle_conn-keeps : {late : Keys} (k : Conn) (s : State) → Holds late s → Holds late (close_idle_conn k s)
unfolding close_idle_conn
close_idle_conn-keeps k s h = when (is_idle_conn s k) (close_conn-keeps true k _ (end_patience-keeps k s h)) h

renew_marks-keeps : {late : Keys} (now : ℕ) (s : State) → Holds late s → Holds late (renew_marks now s)
unfolding renew_marks
renew_marks-keeps now s h = holds (facts_of h)

tick_to-keeps : {late : Keys} (now : ℕ) (s : State) → Holds late s → Holds late (tick_to now s)
unfolding tick_to
tick_to-keeps {late} now s h = each_conn-keeps close_idle_conn close_idle_conn-keeps _ _ marked
  where
    marked : Holds late (record (renew_marks now (marks_anew now s)) { clock = now; is_ticked = true; has_lost_draft = false })
    marked = holds (facts_of (renew_marks-keeps now _ (marks_anew-keeps now s h)))

pub tick-keeps : {late : Keys} (now : ℕ) (s : State) → Holds late s → Holds late (tick now s)
unfolding tick
tick-keeps now s h = tick_to-keeps (max s.clock now) s h

-- behind the end of a turn none is new
pub rest_with-keeps : {late : Keys} (w : Wants) (s : State) → Holds late s → Holds nothing (rest_with w s)
unfolding rest_with
rest_with-keeps w s h = holds (record { own = own_mapped rested_instance s.instances s.next_instance (λ x. refl) (facts_of h).own; late = λ x i. ap (λ (y : Instance). y.is_new) (in_map rested_instance x s.instances i).is; amid = tt; done = tt })

-- ---- what clients wait for and use

pub regained-keeps : {late : Keys} (s : State) → Holds late s → Holds late (regained s)
unfolding regained
regained-keeps s h = holds (facts_of h)

use_chunks-keeps : {late : Keys} (more id i : ℕ) (s : State) → Holds late s → Holds late (use_chunks more id i s)
unfolding use_chunks
use_chunks-keeps zero id i s h = h
use_chunks-keeps (suc more) id i s h = use_chunks-keeps more id (i + 1) _ (use_chunk-keeps id i s h)

use_from-keeps : {late : Keys} (n : ℕ) (x : Next) (s : State) → Holds late s → Holds late (use_from n x s)
unfolding use_from
use_from-keeps n x s h = use_chunks-keeps _ x.source.id (x.at / chunk_len) s h

pub use_said-keeps : {late : Keys} (n : ℕ) (c : Client) (s : State) → Holds late s → Holds late (use_said n c s)
unfolding use_said
use_said-keeps n c s h = when (nat_lt 0 (of_body n c)) (each_of (next_of s c) h (λ x. use_from-keeps (of_body n c) x s h)) h

pub close_finished-keeps : {late : Keys} (c : Client) (s : State) → Holds late s → Holds late (close_finished c s)
unfolding close_finished
close_finished-keeps c s h = when (is_finished c) (close_client-keeps c.number false s h) h

mark_row_of-keeps : {late : Keys} (key : Bytes) (s : State) → MayCome late false key → Holds late s → Holds late (mark_row_of key s)
unfolding mark_row_of
mark_row_of-keeps key s may h = each_so (row s key) (λ none. h) (λ x found. mark_row-keeps x.id key s (its x found) may h)
  where
    its : (x : Instance) → row s key ≡ Some x → (y : Instance) → IsIn y s.instances → is_instance x.id y ≡ true → y.key ≡ key
    its x found y i hit =
        let w : IsIn x s.instances × (is_row_of key x ≡ true) = in_find (is_row_of key) x s.instances found in
        ap (λ (z : Instance). z.key) (the_one instance_id s.instances y x (facts_of h).own.differ i w.0 (same_number y.id x.id hit)) ∙ same_bytes x.key key (second_holds (not x.is_retired) (bytes_eq x.key key) w.1)

pub enter_row-keeps : {late : Keys} (c : Client) (d : Decision) (s : State) → ((key : Key) → key_in c.front ≡ Some key → MayCome late false (text_of key)) → Holds late s → Holds late (enter_row c d s)
unfolding enter_row
enter_row-keeps c d s may h = when (is_for_memory d) h (each_so (key_in c.front) (λ none. h) (λ key is. mark_row_of-keeps (text_of key) _ (may key is) (enter-keeps (text_of key) false s (may key is) h)))
