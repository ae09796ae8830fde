-- What events do to clients, connections and exchanges, in the law: rows are cleared as attempts are lost, and no other row goes.
use Rattle.std.proofs.Common.{◌≡◌, refl, ℕ, zero, suc, ◌+◌, nat_lt, max, Bool, true, false, not, ◌==◌, ◌&&◌, find, is_some, List, [], ◌∷◌, Option, Some, None}
use Rattle.pp_law.specs.After.{event, gone, opened, owing, paid, reached, said}
use Rattle.pp_law.specs.Asking.{ask, ask_body, ask_next, asked_text, asking, hang_up, hear, is_writing}
use Rattle.pp_law.specs.Chunks.{is_chunk, use_chunk}
use Rattle.pp_law.specs.Closing.{close_client, exchanges_of, forsake, leave_one}
use Rattle.pp_law.specs.Connections.{attempts_of, charge, client, close_conn, conn, each_client, each_conn, each_exchange, end_exchange, exchange, fail, front_of_line, give_up_row, is_outstanding, is_unfilled, leave_place, lose_attempt, lose_place, lost_one, may_ask_again, on_client, on_client_of, on_conn, on_exchange}
use Rattle.pp_law.specs.Hearing.{heard_by}
use Rattle.pp_law.specs.Lists.{Bytes, is_some_with}
use Rattle.pp_law.specs.Replies.{close_finished, end_replies, end_reply, end_said, is_finished, is_said, next_request, of_body, regained, said_by, use_chunks, use_from, use_said}
use Rattle.pp_law.specs.Passing.{pour}
use Rattle.pp_law.specs.Responses.{close_this, ended, finish, finish_first, is_whole_at_end, may_go_on, rested, skip_body, skipping}
use Rattle.pp_law.specs.Stages.{filled_of, is_headed}
use Rattle.pp_law.specs.State.{Aim, Answer, Client, Conn, Course, Exchange, Filling, Instance, Own, Owed, State, Through}
use Rattle.pp_law.specs.Table.{Next, is_same_version, next_of, row}
use Rattle.pp_law.specs.Turn.{close_idle_conn, end_patience, is_idle_conn, is_leap, marked_client, marked_conn, marks_anew, owes_answer, renew_marks, tick, tick_to, touch}
use Rattle.pp_pass.specs.Pipe.{Pipe, finished}
use Rattle.pp_joints_law.proofs.ClearedLaw.{Clears, clear-clears, clears, each_of, facts_of, first_of, swept-clears, when, when_so}
use Rattle.pp_target.specs.Key.{text_of}
use Rattle.pp_valid.specs.declared.version.Version.{Version}

-- ---- by number

on_conn-clears : {o : State} (n : ℕ) (f : Conn → Conn) (s : State) → Clears o s → Clears o (on_conn n f s)
unfolding on_conn
on_conn-clears n f s h = clears (facts_of h)

on_exchange-clears : {o : State} (n : ℕ) (f : Exchange → Exchange) (s : State) → Clears o s → Clears o (on_exchange n f s)
unfolding on_exchange
on_exchange-clears n f s h = clears (facts_of h)

on_client-clears : {o : State} (n : ℕ) (f : Client → Client) (s : State) → Clears o s → Clears o (on_client n f s)
unfolding on_client
on_client-clears n f s h = clears (facts_of h)

on_client_of-clears : {o : State} (e : Exchange) (f : Client → Client) (s : State) → Clears o s → Clears o (on_client_of e f s)
unfolding on_client_of
on_client_of-clears e f s h = clears (facts_of h)

each_client-clears : {o : State} (f : Client → State → State) → ((c : Client) (s : State) → Clears o s → Clears o (f c s)) → (ns : List ℕ) (s : State) → Clears o s → Clears o (each_client f ns s)
unfolding each_client
each_client-clears f each [] s h = h
each_client-clears f each (n ∷ ns) s h = each_client-clears f each ns _ (each_of (client s n) h (λ c. each c s h))

each_conn-clears : {o : State} (f : Conn → State → State) → ((k : Conn) (s : State) → Clears o s → Clears o (f k s)) → (ns : List ℕ) (s : State) → Clears o s → Clears o (each_conn f ns s)
unfolding each_conn
each_conn-clears f each [] s h = h
each_conn-clears f each (n ∷ ns) s h = each_conn-clears f each ns _ (each_of (conn s n) h (λ k. each k s h))

each_exchange-clears : {o : State} (f : Exchange → State → State) → ((e : Exchange) (s : State) → Clears o s → Clears o (f e s)) → (ns : List ℕ) (s : State) → Clears o s → Clears o (each_exchange f ns s)
unfolding each_exchange
each_exchange-clears f each [] s h = h
each_exchange-clears f each (n ∷ ns) s h = each_exchange-clears f each ns _ (each_of (exchange s n) h (λ e. each e s h))

-- ---- an attempt is lost

-- its row is there
there_in : (o : Option Version) (x : Option Instance) → is_some_with (λ v. is_some_with (λ (y : Instance). is_same_version v y.version) x) o ≡ true → is_some x ≡ true
there_in None x is = absurd (cc is)
there_in (Some v) None is = absurd (cc is)
there_in (Some v) (Some y) is = refl

give_up_row-clears : {o : State} (e : Exchange) (s : State) → Clears o s → Clears o (give_up_row e s)
unfolding give_up_row
give_up_row-clears e s h = when_so (is_unfilled s e)
    (λ is. on_exchange-clears e.number _ _ (on_client_of-clears e _ _ (clear-clears (text_of e.key) s (there_in (filled_of e) (row s (text_of e.key)) (first_of _ _ is)) h))) h

charge-clears : {o : State} (cost : Course → Course) (e : Exchange) (s : State) → Clears o s → Clears o (charge cost e s)
unfolding charge
charge-clears cost e s h = give_up_row-clears e _ (on_client_of-clears e _ s h)

pub lose_attempt-clears : {o : State} (e : Exchange) (s : State) → Clears o s → Clears o (lose_attempt e s)
unfolding lose_attempt
lose_attempt-clears e s h = charge-clears (lost_one (attempts_of e)) e s h

pub fail-clears : {o : State} (e : Exchange) (s : State) → Clears o s → Clears o (fail e s)
unfolding fail
fail-clears e s h = charge-clears _ e s h

-- ---- a connection is gone

pub end_exchange-clears : {o : State} (n : ℕ) (s : State) → Clears o s → Clears o (end_exchange n s)
unfolding end_exchange
end_exchange-clears n s h = clears (facts_of h)

leave_place-clears : {o : State} (e : Exchange) (s : State) → Clears o s → Clears o (leave_place e s)
unfolding leave_place
leave_place-clears e s h = when (is_headed e) (end_exchange-clears e.number _ (on_client_of-clears e _ s h)) (when (may_ask_again s e.number) (on_exchange-clears e.number _ s h) (end_exchange-clears e.number s h))

lose_place-clears : {o : State} (counts : Bool) (e : Exchange) (s : State) → Clears o s → Clears o (lose_place counts e s)
unfolding lose_place
lose_place-clears counts e s h = when counts (leave_place-clears e _ (lose_attempt-clears e s h)) (leave_place-clears e s h)

pub close_conn-clears : {o : State} (counts : Bool) (k : Conn) (s : State) → Clears o s → Clears o (close_conn counts k s)
unfolding close_conn
close_conn-clears counts k s h = each_exchange-clears (lose_place (counts && not k.has_brought)) (λ e t ht. lose_place-clears (counts && not k.has_brought) e t ht) k.line _ (on_conn-clears k.number _ s h)

-- ---- a client is closed, and replies end

forsake-clears : {o : State} (test : Exchange → Bool) (s : State) → Clears o s → Clears o (forsake test s)
unfolding forsake
forsake-clears test s h = clears (facts_of h)

leave_one-clears : {o : State} (e : Exchange) (s : State) → Clears o s → Clears o (leave_one e s)
unfolding leave_one
leave_one-clears e s h = when (e.asked == 0) (end_exchange-clears e.number s h) (on_exchange-clears e.number _ s h)

close_client-clears : {o : State} (n : ℕ) (is_cut : Bool) (s : State) → Clears o s → Clears o (close_client n is_cut s)
unfolding close_client
close_client-clears n is_cut s h = swept-clears _ (each_exchange-clears leave_one (λ e t ht. leave_one-clears e t ht) (exchanges_of n s) _ (on_client-clears n _ s h))

end_reply-clears : {o : State} (c : Client) (s : State) → Clears o s → Clears o (end_reply c s)
unfolding end_reply
end_reply-clears c s h = when c.closes (close_client-clears c.number false s h) (swept-clears _ (forsake-clears _ _ (on_client-clears c.number next_request s h)))

end_said-clears : {o : State} (c : Client) (s : State) → Clears o s → Clears o (end_said c s)
unfolding end_said
end_said-clears c s h = when (is_said c && not c.is_closing) (end_reply-clears c s h) h

close_finished-clears : {o : State} (c : Client) (s : State) → Clears o s → Clears o (close_finished c s)
unfolding close_finished
close_finished-clears c s h = when (is_finished c) (close_client-clears c.number false s h) h

pub end_replies-clears : {o : State} (s : State) → Clears o s → Clears o (end_replies s)
unfolding end_replies
end_replies-clears s h = each_client-clears close_finished (λ c t ht. close_finished-clears c t ht) _ _ (each_client-clears end_said (λ c t ht. end_said-clears c t ht) _ s h)

regained-clears : {o : State} (s : State) → Clears o s → Clears o (regained s)
unfolding regained
regained-clears s h = clears (facts_of h)

-- ---- what was said is used

use_chunk-clears : {o : State} (id i : ℕ) (s : State) → Clears o s → Clears o (use_chunk id i s)
unfolding use_chunk
use_chunk-clears id i s h = each_of (find (is_chunk id i) s.chunks) h (λ c. clears (facts_of h))

use_chunks-clears : {o : State} (most id i : ℕ) (s : State) → Clears o s → Clears o (use_chunks most id i s)
unfolding use_chunks
use_chunks-clears zero id i s h = h
use_chunks-clears (suc more) id i s h = use_chunks-clears more id (i + 1) _ (use_chunk-clears id i s h)

use_from-clears : {o : State} (n : ℕ) (x : Next) (s : State) → Clears o s → Clears o (use_from n x s)
unfolding use_from
use_from-clears n x s h = use_chunks-clears _ _ _ s h

use_said-clears : {o : State} (n : ℕ) (c : Client) (s : State) → Clears o s → Clears o (use_said n c s)
unfolding use_said
use_said-clears n c s h = when (nat_lt 0 (of_body n c)) (each_of (next_of s c) h (λ x. use_from-clears (of_body n c) x s h)) h

-- ---- reads and writes

pub hear-clears : {o : State} (n : ℕ) (bytes : Bytes) (s : State) → Clears o s → Clears o (hear n bytes s)
unfolding hear
hear-clears n bytes s h = end_replies-clears _ (on_client-clears n (heard_by bytes) s h)

pub hang_up-clears : {o : State} (n : ℕ) (s : State) → Clears o s → Clears o (hang_up n s)
unfolding hang_up
hang_up-clears n s h = when (is_writing s.owed n) (close_client-clears n false s h) (end_replies-clears _ (on_client-clears n _ s h))

pub said-clears : {o : State} (c n : ℕ) (s : State) → Clears o s → Clears o (said c n s)
unfolding said
said-clears c n s h = each_of (client s c) h (λ x. end_replies-clears _ (on_client-clears c (said_by n) _ (use_said-clears n x s h)))

ask_body-clears : {o : State} (e : Exchange) (n : ℕ) (s : State) → Clears o s → Clears o (ask_body e n s)
unfolding ask_body
ask_body-clears e n s h = on_client_of-clears e _ _ (on_exchange-clears e.number _ s h)

ask_next-clears : {o : State} (e : Exchange) (n : ℕ) (s : State) → Clears o s → Clears o (ask_next e n s)
unfolding ask_next
ask_next-clears e n s h = when (is_outstanding e) (ask_body-clears e n s h) (on_exchange-clears e.number (asked_text n s.clock) s h)

pub ask-clears : {o : State} (k n : ℕ) (s : State) → Clears o s → Clears o (ask k n s)
unfolding ask
ask-clears k n s h = each_of (asking s k) h (λ e. ask_next-clears e n s h)

-- ---- a connection is gone, and a clean end may end a body

pour-clears : {o : State} (e : Exchange) (f : Pipe → Pipe) (s : State) → Clears o s → Clears o (pour e f s)
unfolding pour
pour-clears e f s h = on_client_of-clears e _ s h

skip_body-clears : {o : State} (e : Exchange) (s : State) → Clears o s → Clears o (skip_body e s)
unfolding skip_body
skip_body-clears {o} e s h = by e.aim
  where
    by : (a : Aim) → Clears o (elim a as (λ c. State) [ Through ↦ on_client_of e skipping s | Own ↦ s | Filling v from to ↦ s ])
    by Through = on_client_of-clears e skipping s h
    by Own = h
    by (Filling v from to) = h

close_this-clears : {o : State} (n : ℕ) (s : State) → Clears o s → Clears o (close_this n s)
unfolding close_this
close_this-clears n s h = each_of (conn s n) h (λ k. close_conn-clears true k s h)

pub finish-clears : {o : State} (k : Conn) (e : Exchange) (a : Answer) (s : State) → Clears o s → Clears o (finish k e a s)
unfolding finish
finish-clears {o} k e a s h = when (may_go_on e a.head) done (close_this-clears k.number _ done)
  where
    done : Clears o (on_conn k.number (rested a.head) (end_exchange e.number (skip_body e (pour e finished s))))
    done = on_conn-clears k.number _ _ (end_exchange-clears e.number _ (skip_body-clears e _ (pour-clears e finished s h)))

finish_first-clears : {o : State} (k : Conn) (a : Answer) (s : State) → Clears o s → Clears o (finish_first k a s)
unfolding finish_first
finish_first-clears k a s h = each_of (front_of_line s k) h (λ e. finish-clears k e a s h)

ended-clears : {o : State} (is_clean : Bool) (k : Conn) (s : State) → Clears o s → Clears o (ended is_clean k s)
unfolding ended
ended-clears is_clean k s h = each_of k.answer (close_conn-clears true k s h) (λ a. when (is_clean && is_whole_at_end a) (close_this-clears k.number _ (finish_first-clears k a s h)) (close_conn-clears true k s h))

pub gone-clears : {o : State} (is_clean : Bool) (n : ℕ) (s : State) → Clears o s → Clears o (gone is_clean n s)
unfolding gone
gone-clears is_clean n s h = each_of (conn s n) h (λ k. end_replies-clears _ (ended-clears is_clean k s h))

-- ---- the clock

touch-clears : {o : State} (n : ℕ) (s : State) → Clears o s → Clears o (touch n s)
unfolding touch
touch-clears n s h = on_conn-clears n (marked_conn s.clock) _ (on_client-clears n (marked_client s.clock) s h)

marks_anew-clears : {o : State} (now : ℕ) (s : State) → Clears o s → Clears o (marks_anew now s)
unfolding marks_anew
marks_anew-clears now s h = when (is_leap now s) (clears (facts_of h)) h

end_patience-clears : {o : State} (k : Conn) (s : State) → Clears o s → Clears o (end_patience k s)
unfolding end_patience
end_patience-clears k s h = when (owes_answer s k) (each_of (front_of_line s k) h (λ e. fail-clears e s h)) h

close_idle_conn-clears : {o : State} (k : Conn) (s : State) → Clears o s → Clears o (close_idle_conn k s)
unfolding close_idle_conn
close_idle_conn-clears k s h = when (is_idle_conn s k) (close_conn-clears true k _ (end_patience-clears k s h)) h

renew_marks-clears : {o : State} (now : ℕ) (s : State) → Clears o s → Clears o (renew_marks now s)
unfolding renew_marks
renew_marks-clears now s h = clears (facts_of h)

tick_to-clears : {o : State} (now : ℕ) (s : State) → Clears o s → Clears o (tick_to now s)
unfolding tick_to
tick_to-clears {o} now s h = each_conn-clears close_idle_conn (λ k t ht. close_idle_conn-clears k t ht) _ _ marked
  where
    marked : Clears o (record (renew_marks now (marks_anew now s)) { clock = now; is_ticked = true; has_lost_draft = false })
    marked = clears (facts_of (renew_marks-clears now _ (marks_anew-clears now s h)))

pub tick-clears : {o : State} (now : ℕ) (s : State) → Clears o s → Clears o (tick now s)
unfolding tick
tick-clears now s h = tick_to-clears (max s.clock now) s h

-- ---- events

pub event-clears : {o : State} (s : State) → Clears o s → Clears o (event s)
unfolding event
event-clears s h = regained-clears _ (clears (facts_of h))

pub opened-clears : {o : State} (n : ℕ) (s : State) → Clears o s → Clears o (opened n s)
unfolding opened
opened-clears n s h = clears (facts_of h)

pub owing-clears : {o : State} (owed : Owed) (n : ℕ) (s : State) → Clears o s → Clears o (owing owed n s)
unfolding owing
owing-clears owed n s h = clears (facts_of (touch-clears n s h))

pub reached-clears : {o : State} (n : ℕ) (s : State) → Clears o s → Clears o (reached n s)
unfolding reached
reached-clears n s h = touch-clears n _ (on_conn-clears n (λ k. record k { is_reached = true }) s h)

pub paid-clears : {o : State} (s : State) → Clears o s → Clears o (paid s)
unfolding paid
paid-clears s h = regained-clears _ (clears (facts_of h))
