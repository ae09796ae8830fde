-- The phases of a turn, its clock and its end keep what is still to come.
use Rattle.std.proofs.Common.{◌≡◌, ◌∙◌, sym, ap, Option, Some, None, ℕ, zero, suc, ◌+◌, ◌/◌, max, nat_lt, Bool, true, false, List, [], ◌∷◌, refl}
use Rattle.pp_world.specs.declared.event.Wants.{Wants}
use Rattle.pp_law.specs.Chunks.{chunk_len}
use Rattle.pp_law.specs.Connections.{front_of_line}
use Rattle.pp_law.specs.Deciding.{is_for_memory, mark_row_of, enter_row}
use Rattle.pp_law.specs.Opening.{is_at}
use Rattle.pp_law.specs.Phases.{phases, in_phase, behind, next, is_done, come, come_to, decides, come_to_decide, deciding}
use Rattle.pp_law.specs.Replies.{use_chunks, use_from, use_said, of_body, is_finished, close_finished, regained}
use Rattle.pp_law.specs.Requests.{key_in}
use Rattle.pp_law.specs.State.{State, Phase, Before, IsWoken, IsConfigured, IsRooted, IsListed, IsListening, IsStuck, Awaiting, Handling, Evicting, Keeping, Deciding, Following, Connecting, DecidingAgain, Bound, Client, Conn, Exchange, Joining}
use Rattle.pp_law.specs.Stages.{bound_of}
use Rattle.pp_law.specs.Table.{Next, next_of, row}
use Rattle.pp_law.specs.Turn.{rested_conn, marked_client, marked_conn, touch, is_leap, marks_anew, is_idle_conn, owes_answer, end_patience, close_idle_conn, renew_marks, tick_to, tick, rest_with}
use Rattle.pp_law.specs.Lists.{Bytes}
use Rattle.pp_law.specs.Unseen.{furthest_at, wanted_to, rested_exchange, is_unseen, drop_on, drop_unseen}
use Rattle.pp_target.specs.Key.{text_of}
use Rattle.pp_world.specs.declared.note.Decision.{Decision}
use Rattle.pp_laws_brought.proofs.Asks.{as_lined, close_client-keeps, close_conn-keeps, each_conn-keeps, end_exchange-keeps, fail-keeps, fill-keeps, give_up_asks-keeps, on_client-keeps, on_conn-keeps, placing-keeps}
use Rattle.pp_laws.proofs.Cases.{each_of as sound_each, when as sound_when}
use Rattle.pp_laws.proofs.Clients.{fill-sound, give_up_asks-sound}
use Rattle.pp_laws.proofs.Closings.{IsOwnLine, close_conn-sound, own_line, own_line_shrunk}
use Rattle.pp_laws.proofs.Exchanges.{each_conn-sound, end_exchange-sound}
use Rattle.pp_laws.proofs.Places.{placing-sound}
use Rattle.pp_laws.proofs.Shrinks.{end_exchange-shrinks}
use Rattle.pp_laws.proofs.Sound.{Since, Sound}
use Rattle.pp_laws.proofs.Steps.{in_phase-sound}
use Rattle.pp_laws_brought.proofs.Cases.{each_of, when}
use Rattle.pp_laws_brought.proofs.Rows.{enter-keeps, mark_row-keeps, use_chunk-keeps}
use Rattle.pp_laws_brought.proofs.View.{Apart, Holds, SameBound, asks_mapped, bound_same, conns_mapped, facts_of, holds}

drop_on-keeps : {but : Apart} (k : Conn) (s : State) → Holds but s → Holds but (drop_on k s)
unfolding drop_on
drop_on-keeps k s h = each_of (front_of_line s k) h (λ e. when (is_unseen s k e) (close_conn-keeps false k _ (end_exchange-keeps e.number s h)) h)

drop_unseen-keeps : {but : Apart} (s : State) → Holds but s → Holds but (drop_unseen s)
unfolding drop_unseen
drop_unseen-keeps s h = each_conn-keeps drop_on drop_on-keeps _ s h

-- ---- phases

pub in_phase-keeps : {but : Apart} (phase : Phase) (s : State) → Holds but s → Holds but (in_phase phase s)
in_phase-keeps phase s h = holds (facts_of h)

behind-keeps : {b : Since} (phase : Phase) (s : State) → Sound b s → Holds None s → Holds None (behind phase s)
behind-keeps Before s was h = h
behind-keeps IsWoken s was h = h
behind-keeps IsConfigured s was h = h
behind-keeps IsRooted s was h = h
behind-keeps IsListed s was h = h
behind-keeps IsListening s was h = h
behind-keeps IsStuck s was h = h
behind-keeps Awaiting s was h = h
behind-keeps Handling s was h = in_phase-keeps Evicting s h
behind-keeps Evicting s was h = give_up_asks-keeps _ (in_phase-keeps Keeping s h)
behind-keeps Keeping s was h = in_phase-keeps Deciding s h
behind-keeps Deciding s was h = in_phase-keeps Following s h
behind-keeps Following s was h = fill-keeps _ (give_up_asks-keeps _ (drop_unseen-keeps _ (in_phase-keeps Connecting s h)))
behind-keeps Connecting s was h = placing-keeps _ (in_phase-sound DecidingAgain s was) (in_phase-keeps DecidingAgain s h)
behind-keeps DecidingAgain s was h = h

pub next-keeps : {b : Since} (s : State) → Sound b s → Holds None s → Holds None (next s)
unfolding next
next-keeps s was h = behind-keeps s.phase s was h

drop_on-sound : {b : Since} (k : Conn) (s : State) → IsOwnLine k s → Sound b s → Sound b (drop_on k s)
unfolding drop_on
drop_on-sound k s own h =
    sound_each (front_of_line s k) h
    (λ e. sound_when (is_unseen s k e) (close_conn-sound false k _ (own_line_shrunk k s _ (end_exchange-shrinks e.number s) own) (end_exchange-sound e.number s h)) h)

drop_unseen-sound : {b : Since} (s : State) → Sound b s → Sound b (drop_unseen s)
unfolding drop_unseen
drop_unseen-sound s h = each_conn-sound drop_on (λ k t there ht. drop_on-sound k t (own_line k t there ht) ht) _ s h

behind-sound : {b : Since} (phase : Phase) (s : State) → Sound b s → Sound b (behind phase s)
behind-sound Before s h = h
behind-sound IsWoken s h = h
behind-sound IsConfigured s h = h
behind-sound IsRooted s h = h
behind-sound IsListed s h = h
behind-sound IsListening s h = h
behind-sound IsStuck s h = h
behind-sound Awaiting s h = h
behind-sound Handling s h = in_phase-sound Evicting s h
behind-sound Evicting s h = give_up_asks-sound _ (in_phase-sound Keeping s h)
behind-sound Keeping s h = in_phase-sound Deciding s h
behind-sound Deciding s h = in_phase-sound Following s h
behind-sound Following s h = fill-sound _ (give_up_asks-sound _ (drop_unseen-sound _ (in_phase-sound Connecting s h)))
behind-sound Connecting s h = placing-sound _ (in_phase-sound DecidingAgain s h)
behind-sound DecidingAgain s h = h

pub next-sound : {b : Since} (s : State) → Sound b s → Sound b (next s)
unfolding next
next-sound s h = behind-sound s.phase s h

come-keeps : {b : Since} (stops : State → Bool) (ps : List Phase) (s : State) → Sound b s → Holds None s → Holds None (come stops ps s)
unfolding come
come-keeps stops [] s was h = h
come-keeps stops (p ∷ ps) s was h =
    come-keeps stops ps _ (sound_when (is_at p s) (sound_when (stops s) was (sound_when (is_done s) (next-sound s was) was)) was)
    (when (is_at p s) (when (stops s) h (when (is_done s) (next-keeps s was h) h)) h)

pub come_to-keeps : {b : Since} (phase : Phase) (s : State) → Sound b s → Holds None s → Holds None (come_to phase s)
unfolding come_to
come_to-keeps phase s was h = come-keeps (is_at phase) phases s was h

pub come_to_decide-keeps : {b : Since} (s : State) → Sound b s → Holds None s → Holds None (come_to_decide s)
unfolding come_to_decide
come_to_decide-keeps s was h = come-keeps decides phases s was h

pub deciding-keeps : {b : Since} (s : State) → Sound b s → Holds None s → Holds None (deciding s)
unfolding deciding
deciding-keeps s was h = in_phase-keeps Deciding _ (come_to_decide-keeps s was h)

-- ---- marks, and the clock

pub touch-keeps : {but : Apart} (n : ℕ) (s : State) → Holds but s → Holds but (touch n s)
unfolding touch
touch-keeps n s h = on_conn-keeps n (marked_conn s.clock) _ (λ k. as_lined _ k refl refl refl) (on_client-keeps n (marked_client s.clock) s h)

marks_anew-keeps : {but : Apart} (now : ℕ) (s : State) → Holds but s → Holds but (marks_anew now s)
unfolding marks_anew
marks_anew-keeps now s h = when (is_leap now s) (holds (conns_mapped (marked_conn now) s.conns s.exchanges (λ k. as_lined _ k refl refl refl) (facts_of h))) h

end_patience-keeps : {but : Apart} (k : Conn) (s : State) → Holds but s → Holds but (end_patience k s)
unfolding end_patience
end_patience-keeps k s h = when (owes_answer s k) (each_of (front_of_line s k) h (λ e. fail-keeps e s h)) h

close_idle_conn-keeps : {but : Apart} (k : Conn) (s : State) → Holds but s → Holds but (close_idle_conn k s)
unfolding close_idle_conn
close_idle_conn-keeps k s h = when (is_idle_conn s k) (close_conn-keeps true k _ (end_patience-keeps k s h)) h

renew_marks-keeps : {but : Apart} (now : ℕ) (s : State) → Holds but s → Holds but (renew_marks now s)
unfolding renew_marks
renew_marks-keeps now s h = holds (facts_of h)

tick_to-keeps : {but : Apart} (now : ℕ) (s : State) → Holds but s → Holds but (tick_to now s)
unfolding tick_to
tick_to-keeps {but} now s h = each_conn-keeps close_idle_conn close_idle_conn-keeps _ _ marked
  where
    marked : Holds but (record (renew_marks now (marks_anew now s)) { clock = now; is_ticked = true; has_lost_draft = false })
    marked = holds (facts_of (renew_marks-keeps now _ (marks_anew-keeps now s h)))

pub tick-keeps : {but : Apart} (now : ℕ) (s : State) → Holds but s → Holds but (tick now s)
unfolding tick
tick-keeps now s h = tick_to-keeps (max s.clock now) s h

rested_bound : (s : State) (e : Exchange) → SameBound (rested_exchange s e) e
rested_bound s e = by (bound_of e) refl
  where
    wanted : (b : Bound) (o : Option ℕ) → ((elim o as (λ c. Bound) [ None ↦ b | Some at ↦ record b { wanted = at } ]).next ≡ b.next) × ((elim o as (λ c. Bound) [ None ↦ b | Some at ↦ record b { wanted = at } ]).to ≡ b.to)
    wanted b None = (refl, refl)
    wanted b (Some at) = (refl, refl)

    by : (o : Option Bound) → bound_of e ≡ o → SameBound (elim o as (λ c. Exchange) [ None ↦ e | Some b ↦ record e { body = Joining (wanted_to s b) } ]) e
    by None none = bound_same e
    by (Some b) some = record {
      number = refl;
      bound = λ x is. (
          let both : Some (wanted_to s b) ≡ Some x = is in
          let one : wanted_to s b ≡ x = cc both in
          record { bound = b; is = some; next = ap (λ (y : Bound). y.next) (sym one) ∙ (wanted b (furthest_at s b)).0; to = ap (λ (y : Bound). y.to) (sym one) ∙ (wanted b (furthest_at s b)).1 });
    }

pub rest_with-keeps : {but : Apart} (w : Wants) (s : State) → Holds but s → Holds but (rest_with w s)
unfolding rest_with
rest_with-keeps w s h = holds (asks_mapped (rested_exchange s) _ s.exchanges (rested_bound s) (conns_mapped (rested_conn s w) s.conns s.exchanges (λ k. as_lined _ k refl refl refl) (facts_of h)))

-- ---- what clients wait for and use

pub regained-keeps : {but : Apart} (s : State) → Holds but s → Holds but (regained s)
unfolding regained
regained-keeps s h = holds (facts_of h)

use_chunks-keeps : {but : Apart} (more id i : ℕ) (s : State) → Holds but s → Holds but (use_chunks more id i s)
unfolding use_chunks
use_chunks-keeps zero id i s h = h
use_chunks-keeps (suc more) id i s h = use_chunks-keeps more id (i + 1) _ (use_chunk-keeps id i s h)

use_from-keeps : {but : Apart} (n : ℕ) (x : Next) (s : State) → Holds but s → Holds but (use_from n x s)
unfolding use_from
use_from-keeps n x s h = use_chunks-keeps _ x.source.id (x.at / chunk_len) s h

pub use_said-keeps : {but : Apart} (n : ℕ) (c : Client) (s : State) → Holds but s → Holds but (use_said n c s)
unfolding use_said
use_said-keeps n c s h = when (nat_lt 0 (of_body n c)) (each_of (next_of s c) h (λ x. use_from-keeps (of_body n c) x s h)) h

pub close_finished-keeps : {but : Apart} (c : Client) (s : State) → Holds but s → Holds but (close_finished c s)
unfolding close_finished
close_finished-keeps c s h = when (is_finished c) (close_client-keeps c.number false s h) h

mark_row_of-keeps : {but : Apart} (key : Bytes) (s : State) → Holds but s → Holds but (mark_row_of key s)
unfolding mark_row_of
mark_row_of-keeps key s h = each_of (row s key) h (λ x. mark_row-keeps x.id s h)

pub enter_row-keeps : {but : Apart} (c : Client) (d : Decision) (s : State) → Holds but s → Holds but (enter_row c d s)
unfolding enter_row
enter_row-keeps c d s h = when (is_for_memory d) h (each_of (key_in c.front) h (λ key. mark_row_of-keeps (text_of key) _ (enter-keeps (text_of key) false s h)))
