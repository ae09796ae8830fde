-- Replies, asks, the clock and the phases of a turn bring no row; and where replies end, each client is at its next request, at most.
use Rattle.std.proofs.Common.{◌≡◌, refl, ℕ, zero, suc, ◌+◌, ◌≤◌, nat_lt, max, Bool, true, false, not, ◌&&◌, List, [], ◌∷◌, map, length, ap, ◌∙◌, sym, subst, le_refl, arith}
use Rattle.pp_law.specs.After.{event, evicted, gone, owing, paid, reached, refused_row, said, shut, waits_for_row}
use Rattle.pp_law.specs.Asking.{ask, ask_body, ask_next, asked_body, asked_text, asking, hang_up, hear, is_writing}
use Rattle.pp_law.specs.Closing.{close_client}
use Rattle.pp_law.specs.Connections.{client, conn, each_client, front_of_line, is_client, is_outstanding, on_client}
use Rattle.pp_law.specs.Hearing.{heard_by}
use Rattle.pp_law.specs.Lists.{Bytes, without}
use Rattle.pp_law.specs.Opening.{is_at}
use Rattle.pp_law.specs.Phases.{behind, come, come_to, come_to_decide, decides, deciding, due_victim, ending, in_phase, is_done, next, phases}
use Rattle.pp_law.specs.Replies.{begin_replies, begun_at_end, close_finished, end_replies, end_reply, end_said, is_finished, is_said, next_request, of_body, regained, regained_by, said_by, use_chunks, use_from, use_said}
use Rattle.pp_law.specs.State.{State, RowRefused, Phase, Before, IsWoken, IsConfigured, IsRooted, IsListed, IsListening, IsStuck, Awaiting, Handling, Evicting, Keeping, Deciding, Following, Connecting, DecidingAgain, Client, Conn, Exchange, Instance, Owed}
use Rattle.pp_law.specs.Table.{Next, forget, next_of}
use Rattle.pp_law.specs.Turn.{close_idle_conn, end_patience, is_idle_conn, is_leap, marked_client, marked_conn, marks_anew, owes_answer, renew_marks, rest_with, rested_client, tick, tick_to, touch, woken_client}
use Rattle.pp_laws.proofs.Lists.{Changed, changed_at, in_change, in_filter, other, same}
use Rattle.pp_laws.proofs.Sound.{client_number}
use Rattle.pp_laws_bounds.proofs.Counts.{length-filter, length-map}
use Rattle.pp_laws_sides.proofs.Few.{Facts, Few, changed_few, each_of, facts_of, few, raise, when}
use Rattle.pp_laws_sides.proofs.FewAsks.{drop_unseen-few, fill-few, give_up_asks-few}
use Rattle.pp_laws_sides.proofs.FewResponses.{ended-few}
use Rattle.pp_laws_sides.proofs.FewTable.{close_client-few, close_conn-few, drop_chunk-few, each_conn-few, fail-few, forget-few, forsake-few, on_client-few, on_client_of-few, on_conn-few, on_exchange-few, placing-few, swept-few, use_chunk-few}
use Rattle.pp_laws_sides.proofs.Indexes.{begun_at_end-index, heard_by-index, index_at, next_request-index, regained_by-index, said_by-index, woken_client-index}
use Rattle.pp_world.specs.declared.event.Wants.{Wants}

-- ---- replies

pub begin_replies-few : {m l : ℕ} (s : State) → Few m l s → Few m l (begin_replies s)
unfolding begin_replies
begin_replies-few s h = swept-few _ (forsake-few _ _ (few (changed_few (begun_at_end s) s.clients (begun_at_end-index s) (facts_of h))))

use_chunks-few : {m l : ℕ} (most id i : ℕ) (s : State) → Few m l s → Few m l (use_chunks most id i s)
unfolding use_chunks
use_chunks-few zero id i s h = h
use_chunks-few (suc more) id i s h = use_chunks-few more id (i + 1) _ (use_chunk-few id i s h)

use_from-few : {m l : ℕ} (n : ℕ) (x : Next) (s : State) → Few m l s → Few m l (use_from n x s)
unfolding use_from
use_from-few n x s h = use_chunks-few _ _ _ s h

use_said-few : {m l : ℕ} (n : ℕ) (c : Client) (s : State) → Few m l s → Few m l (use_said n c s)
unfolding use_said
use_said-few n c s h = when (nat_lt 0 (of_body n c)) (each_of (next_of s c) h (λ x. use_from-few (of_body n c) x s h)) h

-- it may be at a later request
later : {m l : ℕ} (s : State) → Few m l s → Few m (l + 1) s
later {m} {l} s h = raise m (l + 1) s (le_refl m) (omega arith) h

next_request-few : {m l : ℕ} (n : ℕ) (s : State) → Few m l s → Few m (l + 1) (on_client n next_request s)
unfolding on_client
next_request-few {m} {l} n s h = few (record {
  rows = (facts_of h).rows;
  asked = λ c i. by c (in_change (is_client n) next_request c s.clients i);
  many = subst (λ k. k ≤ 256) (sym (length-map (changed_at (is_client n) next_request) s.clients)) (facts_of h).many;
})
  where
    by : (c : Client) → Changed (is_client n) next_request s.clients c → c.index ≤ l + 1
    by c (same i isnt) = let le : c.index ≤ l = (facts_of h).asked c i in omega arith
    by c (other x i hit e) =
        let le : x.index ≤ l = (facts_of h).asked x i in
        let is : c.index ≡ x.index + 1 = ap (λ (d : Client). d.index) e ∙ next_request-index x in
        omega arith

end_reply-few : {m l : ℕ} (c : Client) (s : State) → Few m l s → Few m (l + 1) (end_reply c s)
unfolding end_reply
end_reply-few c s h = when c.closes (later _ (close_client-few c.number false s h)) (swept-few _ (forsake-few _ _ (next_request-few c.number s h)))

end_said-few : {m l : ℕ} (c : Client) (s : State) → Few m l s → Few m (l + 1) (end_said c s)
unfolding end_said
end_said-few c s h = when (is_said c && not c.is_closing) (end_reply-few c s h) (later s h)

each_said : {m : ℕ} (l : ℕ) (ns : List ℕ) (s : State) → Few m l s → Few m (l + length ns) (each_client end_said ns s)
unfolding each_client
each_said {m} l [] s h = raise m (l + 0) s (le_refl m) (omega arith) h
each_said {m} l (n ∷ ns) s h = raise m (l + length (n ∷ ns)) _ (le_refl m) (sums l (length ns)) (each_said (l + 1) ns _ (each_of (client s n) (later s h) (λ c. end_said-few c s h)))
  where
    sums : (a b : ℕ) → a + 1 + b ≤ a + suc b
    sums a b = omega arith

close_finished-few : {m l : ℕ} (c : Client) (s : State) → Few m l s → Few m l (close_finished c s)
unfolding close_finished
close_finished-few c s h = when (is_finished c) (close_client-few c.number false s h) h

each_finished : {m l : ℕ} (ns : List ℕ) (s : State) → Few m l s → Few m l (each_client close_finished ns s)
unfolding each_client
each_finished [] s h = h
each_finished (n ∷ ns) s h = each_finished ns _ (each_of (client s n) h (λ c. close_finished-few c s h))

pub end_replies-few : {m l : ℕ} (s : State) → Few m l s → Few m (l + 256) (end_replies s)
unfolding end_replies
end_replies-few {m} {l} s h = each_finished _ _ (raise m (l + 256) _ (le_refl m) many (each_said l (map client_number s.clients) s h))
  where
    many : l + length (map client_number s.clients) ≤ l + 256
    many =
        let le : length s.clients ≤ 256 = (facts_of h).many in
        let is : length (map client_number s.clients) ≡ length s.clients = length-map client_number s.clients in
        omega arith

pub regained-few : {m l : ℕ} (s : State) → Few m l s → Few m l (regained s)
unfolding regained
regained-few s h = few (changed_few (regained_by s) s.clients (regained_by-index s) (facts_of h))

-- ---- asks

-- it is no later than so many
still : {m l : ℕ} (s : State) → Few m l s → Few m (l + 256) s
still {m} {l} s h = raise m (l + 256) s (le_refl m) (omega arith) h

pub hear-few : {m l : ℕ} (n : ℕ) (bytes : Bytes) (s : State) → Few m l s → Few m (l + 256) (hear n bytes s)
unfolding hear
hear-few n bytes s h = end_replies-few _ (on_client-few n (heard_by bytes) s (heard_by-index bytes) h)

ask_body-few : {m l : ℕ} (e : Exchange) (n : ℕ) (s : State) → Few m l s → Few m l (ask_body e n s)
unfolding ask_body
ask_body-few e n s h = on_client_of-few e (asked_body n) _ (λ c. refl) (on_exchange-few e.number _ s h)

ask_next-few : {m l : ℕ} (e : Exchange) (n : ℕ) (s : State) → Few m l s → Few m l (ask_next e n s)
unfolding ask_next
ask_next-few e n s h = when (is_outstanding e) (ask_body-few e n s h) (on_exchange-few e.number (asked_text n s.clock) s h)

pub ask-few : {m l : ℕ} (k n : ℕ) (s : State) → Few m l s → Few m l (ask k n s)
unfolding ask
ask-few k n s h = each_of (asking s k) h (λ e. ask_next-few e n s h)

pub hang_up-few : {m l : ℕ} (n : ℕ) (s : State) → Few m l s → Few m (l + 256) (hang_up n s)
unfolding hang_up
hang_up-few n s h = when (is_writing s.owed n) (still _ (close_client-few n false s h)) (end_replies-few _ (on_client-few n (λ c. record c { has_hung_up = true }) s (λ c. refl) h))

-- ---- marks, and the clock

pub touch-few : {m l : ℕ} (n : ℕ) (s : State) → Few m l s → Few m l (touch n s)
unfolding touch
touch-few n s h = on_conn-few n (marked_conn s.clock) _ (on_client-few n (marked_client s.clock) s (λ c. refl) h)

end_patience-few : {m l : ℕ} (k : Conn) (s : State) → Few m l s → Few m l (end_patience k s)
unfolding end_patience
end_patience-few k s h = when (owes_answer s k) (each_of (front_of_line s k) h (λ e. fail-few e s h)) h

close_idle_conn-few : {m l : ℕ} (k : Conn) (s : State) → Few m l s → Few m l (close_idle_conn k s)
unfolding close_idle_conn
close_idle_conn-few k s h = when (is_idle_conn s k) (close_conn-few true k _ (end_patience-few k s h)) h

marks_anew-few : {m l : ℕ} (now : ℕ) (s : State) → Few m l s → Few m l (marks_anew now s)
unfolding marks_anew
marks_anew-few {m} {l} now s h = by (is_leap now s)
  where
    by : (leaps : Bool) → Few m l (elim leaps as (λ c. State) [ false ↦ s | true ↦ record s { has_ticked = true; clients = map (marked_client now) s.clients; conns = map (marked_conn now) s.conns } ])
    by false = h
    by true = few (changed_few (marked_client now) s.clients (λ c. refl) (facts_of h))

renew_marks-few : {m l : ℕ} (now : ℕ) (s : State) → Few m l s → Few m l (renew_marks now s)
unfolding renew_marks
renew_marks-few now s h = few (changed_few (woken_client now s) s.clients (woken_client-index now s) (facts_of h))

tick_to-few : {m l : ℕ} (now : ℕ) (s : State) → Few m l s → Few m l (tick_to now s)
unfolding tick_to
tick_to-few now s h = each_conn-few close_idle_conn (λ k t ht. close_idle_conn-few k t ht) _ _ (few (facts_of (renew_marks-few now (marks_anew now s) (marks_anew-few now s h))))

pub tick-few : {m l : ℕ} (now : ℕ) (s : State) → Few m l s → Few m l (tick now s)
unfolding tick
tick-few now s h = tick_to-few (max s.clock now) s h

-- ---- phases

behind-few : {m l : ℕ} (phase : Phase) (s : State) → Few m l s → Few m l (behind phase s)
behind-few Before s h = h
behind-few IsWoken s h = h
behind-few IsConfigured s h = h
behind-few IsRooted s h = h
behind-few IsListed s h = h
behind-few IsListening s h = h
behind-few IsStuck s h = h
behind-few Awaiting s h = h
behind-few Handling s h = few (facts_of h)
behind-few Evicting s h = give_up_asks-few _ (few (facts_of h))
behind-few Keeping s h = few (facts_of h)
behind-few Deciding s h = few (facts_of h)
behind-few Following s h = fill-few _ (give_up_asks-few _ (drop_unseen-few _ (few (facts_of h))))
behind-few Connecting s h = placing-few (in_phase DecidingAgain s) (few (facts_of h))
behind-few DecidingAgain s h = h

pub next-few : {m l : ℕ} (s : State) → Few m l s → Few m l (next s)
unfolding next
next-few s h = behind-few s.phase s h

come-few : {m l : ℕ} (stops : State → Bool) (ps : List Phase) (s : State) → Few m l s → Few m l (come stops ps s)
unfolding come
come-few stops [] s h = h
come-few stops (p ∷ ps) s h = come-few stops ps _ (when (is_at p s) (when (stops s) h (when (is_done s) (next-few s h) h)) h)

pub come_to-few : {m l : ℕ} (phase : Phase) (s : State) → Few m l s → Few m l (come_to phase s)
unfolding come_to
come_to-few phase s h = come-few (is_at phase) phases s h

pub come_to_decide-few : {m l : ℕ} (s : State) → Few m l s → Few m l (come_to_decide s)
unfolding come_to_decide
come_to_decide-few s h = come-few decides phases s h

pub deciding-few : {m l : ℕ} (s : State) → Few m l s → Few m l (deciding s)
unfolding deciding
deciding-few s h = few (facts_of (come_to_decide-few s h))

pub ending-few : {m l : ℕ} (s : State) → Few m l s → Few m l (ending s)
unfolding ending
ending-few s h = begin_replies-few _ (come_to-few DecidingAgain s h)

-- ---- events, reads and writes

pub event-few : {m l : ℕ} (s : State) → Few m l s → Few m l (event s)
unfolding event
event-few s h = regained-few _ (few (facts_of h))

pub paid-few : {m l : ℕ} (s : State) → Few m l s → Few m l (paid s)
unfolding paid
paid-few s h = regained-few _ (few (facts_of h))

pub owing-few : {m l : ℕ} (owed : Owed) (n : ℕ) (s : State) → Few m l s → Few m l (event (owing owed n s))
unfolding owing
owing-few owed n s h = event-few _ (few (facts_of (touch-few n s h)))

pub reached-few : {m l : ℕ} (n : ℕ) (s : State) → Few m l s → Few m l (reached n s)
unfolding reached
reached-few n s h = touch-few n _ (on_conn-few n (λ k. record k { is_reached = true }) s h)

pub said-few : {m l : ℕ} (c n : ℕ) (s : State) → Few m l s → Few m (l + 256) (said c n s)
unfolding said
said-few c n s h = each_of (client s c) (still s h) (λ x. end_replies-few _ (on_client-few c (said_by n) _ (said_by-index n) (use_said-few n x s h)))

pub gone-few : {m l : ℕ} (is_clean : Bool) (n : ℕ) (s : State) → Few m l s → Few m (l + 256) (gone is_clean n s)
unfolding gone
gone-few is_clean n s h = each_of (conn s n) (still s h) (λ k. end_replies-few _ (ended-few is_clean k s h))

pub evicted-few : {m l : ℕ} (s : State) → Few m l s → Few m l (evicted s)
unfolding evicted
evicted-few s h = each_of (due_victim s) h (λ place. drop_chunk-few place.0 place.1 s h)

pub refused_row-few : {m l : ℕ} (x : Instance) (s : State) → Few m l s → Few m l (refused_row x s)
unfolding refused_row
refused_row-few x s h =
    few (changed_few (changed_at (waits_for_row x.id) (λ c. record c { course = RowRefused })) (forget x.id s).clients (λ c. index_at (λ d. record d { course = RowRefused }) c (waits_for_row x.id c) refl) (facts_of (forget-few x.id s h)))

pub shut-few : {m l : ℕ} (n : ℕ) (s : State) → Few m l s → Few m l (shut n s)
unfolding shut
shut-few {m} {l} n s h = few (record {
  rows = closed.rows;
  asked = λ c i. closed.asked c (in_filter (λ x. not (is_client n x)) c (close_client n false s).clients i).0;
  many = fewer (length (without (is_client n) (close_client n false s).clients)) (length (close_client n false s).clients) (length-filter (λ x. not (is_client n x)) (close_client n false s).clients) closed.many;
})
  where
    closed : Facts m l (close_client n false s).clients (close_client n false s).next_instance
    closed = facts_of (close_client-few n false s h)

    fewer : (a b : ℕ) → a ≤ b → b ≤ 256 → a ≤ 256
    fewer a b one two = omega arith

pub rest_with-few : {m l : ℕ} (w : Wants) (s : State) → Few m l s → Few m l (rest_with w s)
unfolding rest_with
rest_with-few w s h = few (changed_few (rested_client s) s.clients (λ c. refl) (facts_of h))
