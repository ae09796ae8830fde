-- What is done for clients keeps the bounds: decisions, replies, asks and closings.
use Rattle.std.proofs.Common.{◌≡◌, refl, ℕ, zero, suc, ◌+◌, ◌-◌, ◌/◌, nat_lt, Bool, true, false, not, ◌==◌, ◌&&◌, ◌||◌, Some, None}
use Rattle.pp_ask.specs.declared.kind.AskKind.{AskKind}
use Rattle.pp_head.specs.Request.{Request}
use Rattle.pp_pass.specs.Pipe.{Pipe}
use Rattle.pp_target.specs.Key.{Key, text_of}
use Rattle.pp_world.specs.declared.note.Decision.TheVariants.{Refuse, Hit, Part, Head, NotModified, Unsatisfiable, Relay, Validate, Fetch, Pass}
use Rattle.pp_world.specs.declared.note.Decision.{Decision}
use Rattle.pp_law.specs.Asking.{asking, is_writing, hear, ask_body, ask_next, ask, hang_up, asked_text, asked_body}
use Rattle.pp_law.specs.Chunks.{chunk_len, use_chunk}
use Rattle.pp_law.specs.Closing.{is_of, left_alone, forsake, is_over, leave, leave_one, exchanges_of, close_client}
use Rattle.pp_law.specs.Connections.{is_outstanding, on_exchange, is_trying, on_client}
use Rattle.pp_law.specs.Deciding.{refused_with, refuse, add_exchange, begin_exchange, new_exchange, asking_with, ask_for, ask_as, ask_origin, reply_by, answering_with, serves, follow_with, follow_row, follow, relay, is_for_memory, mark_row_of, enter_row, decided_by, decided}
use Rattle.pp_law.specs.Decisions.{kind_of, fits}
use Rattle.pp_law.specs.Followers.{need_of, filling_exchange, fill_with, fill_span, fill_next, fill_for, fill, is_useless_ask, give_up_asks}
use Rattle.pp_law.specs.Hearing.{heard_by}
use Rattle.pp_law.specs.Lists.{Bytes, is_some_with}
use Rattle.pp_law.specs.Passing.{pour}
use Rattle.pp_law.specs.Replies.{begun_at_end, is_outrun, begin_replies, use_chunks, use_from, use_said, of_body, is_said, next_request, end_reply, end_said, is_finished, close_finished, end_replies, regained_by, regained}
use Rattle.pp_law.specs.Requests.{key_in}
use Rattle.pp_law.specs.Stages.{bound_of, on_passed}
use Rattle.pp_law.specs.State.{State, AskTooLong, Client, Exchange}
use Rattle.pp_law.specs.Table.{Next, next_of, row, row_for}
use Rattle.pp_laws_bounds.proofs.SmallCases.{by_front, by_result, each_of, when}
use Rattle.pp_laws_bounds.proofs.SmallChanges.{NotBound, clients_mapped, exchange_pushed, exchanges_changed, exchanges_filtered, same_body}
use Rattle.pp_laws_bounds.proofs.SmallExchanges.{each_client-small, each_exchange-small, end_exchange-small, on_client-small, on_client_of-small, on_exchange-small}
use Rattle.pp_laws_bounds.proofs.Small.{As, Small, facts_of, small}
use Rattle.pp_laws_bounds.proofs.SmallRows.{enter-small, mark_row-small, swept-small, use_chunk-small}

pub pour-small : {a : As} (e : Exchange) (f : Pipe → Pipe) (s : State) → Small a s → Small a (pour e f s)
unfolding pour
pour-small e f s h = on_client_of-small e (on_passed (λ p. record p { pipe = f p.pipe })) s h

-- ---- an exchange that its request leaves

left_same : NotBound left_alone
left_same = same_body left_alone (λ x. refl) (λ x. refl)

pub forsake-small : {a : As} (test : Exchange → Bool) (s : State) → Small a s → Small a (forsake test s)
unfolding forsake
forsake-small {a} test s h = small (exchanges_changed a s test left_alone left_same (facts_of h))

pub leave-small : {a : As} (test : Exchange → Bool) (s : State) → Small a s → Small a (leave test s)
unfolding leave
leave-small {a} test s h = small (exchanges_filtered a (forsake test s) (λ e. not (is_over e)) (facts_of (forsake-small test s h)))

-- ---- a client is closed

leave_one-small : {a : As} (e : Exchange) (s : State) → Small a s → Small a (leave_one e s)
unfolding leave_one
leave_one-small e s h = when (e.asked == 0) (end_exchange-small e.number s h) (on_exchange-small e.number left_alone s left_same h)

pub close_client-small : {a : As} (n : ℕ) (is_cut : Bool) (s : State) → Small a s → Small a (close_client n is_cut s)
unfolding close_client
close_client-small n is_cut s h = swept-small _ (each_exchange-small leave_one leave_one-small (exchanges_of n s) _ (on_client-small n (λ c. record c { is_closing = true; is_cut = c.is_cut || is_cut }) s h))

-- ---- decisions

refuse-small : {a : As} (c : Client) (status : ℕ) (s : State) → Small a s → Small a (refuse c status s)
unfolding refuse
refuse-small c status s h = swept-small _ (leave-small (is_of c.number) _ (on_client-small c.number (refused_with status) s h))

add_exchange-small : {a : As} (e : Exchange) (s : State) → e.number ≡ s.next_exchange → bound_of e ≡ None → Small a s → Small a (add_exchange e s)
unfolding add_exchange
add_exchange-small {a} e s none fresh h = small (exchange_pushed a s e none fresh (facts_of h))

begin_exchange-small : {a : As} (e : Exchange) (s : State) → e.number ≡ s.next_exchange → bound_of e ≡ None → Small a s → Small a (begin_exchange e s)
unfolding begin_exchange leave forsake
begin_exchange-small e s none fresh h = add_exchange-small e _ none fresh (leave-small (λ x. is_some_with (λ n. is_of n x) e.asker) s h)

ask_for-small : {a : As} (c : Client) (d : Decision) (head : Request) (key : Key) (kind : AskKind) (s : State) → Small a s → Small a (ask_for c d head key kind s)
unfolding ask_for leave forsake on_client
ask_for-small c d head key kind s h = swept-small _ (begin_exchange-small (new_exchange s c head key d kind) _ refl refl (leave-small (is_of c.number) _ (on_client-small c.number (asking_with d) s h)))

ask_as-small : {a : As} (c : Client) (d : Decision) (head : Request) (key : Key) (s : State) → Small a s → Small a (ask_as c d head key s)
unfolding ask_as
ask_as-small c d head key s h = each_of (kind_of head (row_for s head (text_of key)) d) h (λ kind. ask_for-small c d head key kind s h)

ask_origin-small : {a : As} (c : Client) (d : Decision) (s : State) → Small a s → Small a (ask_origin c d s)
unfolding ask_origin
ask_origin-small c d s h = by_front c.front h (λ status. h) (λ r. by_result r.key (λ key. ask_as-small c d r.head key s h) (λ fault. h))

follow_row-small : {a : As} (c : Client) (d : Decision) (key : Bytes) (s : State) → Small a s → Small a (follow_row c d key s)
unfolding follow_row follow_with
follow_row-small c d key s h =
    each_of (row s key) h
    (λ x. swept-small _ (leave-small (λ e. is_of c.number e && not (serves x (reply_by d (Some x.id)) e)) _ (on_client-small c.number (answering_with (reply_by d (Some x.id))) s h)))

follow-small : {a : As} (c : Client) (d : Decision) (s : State) → Small a s → Small a (follow c d s)
unfolding follow
follow-small c d s h = each_of (key_in c.front) h (λ key. follow_row-small c d (text_of key) s h)

relay-small : {a : As} (c : Client) (s : State) → Small a s → Small a (relay c s)
unfolding relay
relay-small c s h = swept-small _ (on_client-small c.number (answering_with (reply_by Relay None)) s h)

mark_row_of-small : {a : As} (key : Bytes) (s : State) → Small a s → Small a (mark_row_of key s)
unfolding mark_row_of
mark_row_of-small key s h = each_of (row s key) h (λ x. mark_row-small x.id s h)

enter_row-small : {a : As} (c : Client) (d : Decision) (s : State) → Small a s → Small a (enter_row c d s)
unfolding enter_row
enter_row-small c d s h = when (is_for_memory d) h (each_of (key_in c.front) h (λ key. mark_row_of-small (text_of key) _ (enter-small (text_of key) false s h)))

decided_by-small : {a : As} (c : Client) (d : Decision) (s : State) → Small a s → Small a (decided_by c d s)
unfolding decided_by
decided_by-small c (Refuse status) s h = refuse-small c status s h
decided_by-small c Pass s h = ask_origin-small c Pass s h
decided_by-small c Fetch s h = ask_origin-small c Fetch s h
decided_by-small c Validate s h = ask_origin-small c Validate s h
decided_by-small c Relay s h = relay-small c s h
decided_by-small c (Hit from to) s h = follow-small c (Hit from to) s h
decided_by-small c (Part from to) s h = follow-small c (Part from to) s h
decided_by-small c Head s h = follow-small c Head s h
decided_by-small c NotModified s h = follow-small c NotModified s h
decided_by-small c Unsatisfiable s h = follow-small c Unsatisfiable s h

pub decided-small : {a : As} (c : Client) (d : Decision) (s : State) → Small a s → Small a (decided c d s)
unfolding decided
decided-small c d s h = decided_by-small c d _ (enter_row-small c d s h)

-- ---- replies

pub begin_replies-small : {a : As} (s : State) → Small a s → Small a (begin_replies s)
unfolding begin_replies
begin_replies-small {a} s h = swept-small _ (forsake-small (is_outrun s) _ (small (clients_mapped a s (begun_at_end s) (facts_of h))))

use_chunks-small : {a : As} (more id i : ℕ) (s : State) → Small a s → Small a (use_chunks more id i s)
unfolding use_chunks
use_chunks-small zero id i s h = h
use_chunks-small (suc more) id i s h = use_chunks-small more id (i + 1) (use_chunk id i s) (use_chunk-small id i s h)

use_from-small : {a : As} (n : ℕ) (x : Next) (s : State) → Small a s → Small a (use_from n x s)
unfolding use_from
use_from-small n x s h = use_chunks-small _ x.source.id (x.at / chunk_len) s h

pub use_said-small : {a : As} (n : ℕ) (c : Client) (s : State) → Small a s → Small a (use_said n c s)
unfolding use_said
use_said-small n c s h = when (nat_lt 0 (of_body n c)) (each_of (next_of s c) h (λ x. use_from-small (of_body n c) x s h)) h

end_reply-small : {a : As} (c : Client) (s : State) → Small a s → Small a (end_reply c s)
unfolding end_reply
end_reply-small c s h = when c.closes (close_client-small c.number false s h) (swept-small _ (forsake-small (is_of c.number) _ (on_client-small c.number next_request s h)))

end_said-small : {a : As} (c : Client) (s : State) → Small a s → Small a (end_said c s)
unfolding end_said
end_said-small c s h = when (is_said c && not c.is_closing) (end_reply-small c s h) h

close_finished-small : {a : As} (c : Client) (s : State) → Small a s → Small a (close_finished c s)
unfolding close_finished
close_finished-small c s h = when (is_finished c) (close_client-small c.number false s h) h

pub end_replies-small : {a : As} (s : State) → Small a s → Small a (end_replies s)
unfolding end_replies
end_replies-small s h = each_client-small close_finished close_finished-small _ _ (each_client-small end_said end_said-small _ s h)

pub regained-small : {a : As} (s : State) → Small a s → Small a (regained s)
unfolding regained
regained-small {a} s h = small (clients_mapped a s (regained_by s) (facts_of h))

-- ---- what followers ask for

fill_with-small : {a : As} (e : Exchange) (c : Client) (s : State) → e.number ≡ s.next_exchange → bound_of e ≡ None → Small a s → Small a (fill_with e c s)
unfolding fill_with
fill_with-small e c s none fresh h = when (fits e.text) (begin_exchange-small e s none fresh h) (on_client-small c.number (λ x. record x { course = AskTooLong }) s h)

fill_span-small : {a : As} (c : Client) (n : Next) (span : ℕ × ℕ) (s : State) → Small a s → Small a (fill_span c n span s)
unfolding fill_span
fill_span-small c n span s h =
    by_front c.front h (λ status. h) (λ r. by_result r.key (λ key. fill_with-small (filling_exchange s c r.head key n span) c s refl refl h) (λ fault. h))

fill_next-small : {a : As} (c : Client) (n : Next) (s : State) → Small a s → Small a (fill_next c n s)
unfolding fill_next
fill_next-small c n s h = each_of (need_of s n) h (λ span. fill_span-small c n span s h)

fill_for-small : {a : As} (c : Client) (s : State) → Small a s → Small a (fill_for c s)
unfolding fill_for
fill_for-small c s h = when (is_trying c.course) (each_of (next_of s c) h (λ n. fill_next-small c n s h)) h

pub fill-small : {a : As} (s : State) → Small a s → Small a (fill s)
unfolding fill
fill-small s h = when s.is_stopped h (each_client-small fill_for fill_for-small _ s h)

pub give_up_asks-small : {a : As} (s : State) → Small a s → Small a (give_up_asks s)
unfolding give_up_asks
give_up_asks-small {a} s h = small (exchanges_filtered a s (λ e. not (is_useless_ask s e)) (facts_of h))

-- ---- what is heard and asked

pub hear-small : {a : As} (n : ℕ) (bytes : Bytes) (s : State) → Small a s → Small a (hear n bytes s)
unfolding hear
hear-small n bytes s h = end_replies-small _ (on_client-small n (heard_by bytes) s h)

pub hang_up-small : {a : As} (n : ℕ) (s : State) → Small a s → Small a (hang_up n s)
unfolding hang_up
hang_up-small n s h = when (is_writing s.owed n) (close_client-small n false s h) (end_replies-small _ (on_client-small n (λ c. record c { has_hung_up = true }) s h))

ask_body-small : {a : As} (e : Exchange) (n : ℕ) (s : State) → Small a s → Small a (ask_body e n s)
unfolding ask_body
ask_body-small e n s h = on_client_of-small e (asked_body n) _ (on_exchange-small e.number (λ x. record x { body_left = x.body_left - n }) s (same_body (λ x. record x { body_left = x.body_left - n }) (λ x. refl) (λ x. refl)) h)

ask_next-small : {a : As} (e : Exchange) (n : ℕ) (s : State) → Small a s → Small a (ask_next e n s)
unfolding ask_next
ask_next-small {a} e n s h = by (is_outstanding e)
  where
    by : (t : Bool) → Small a (elim t as (λ c. State) [ false ↦ on_exchange e.number (asked_text n s.clock) s | true ↦ ask_body e n s ])
    by false = on_exchange-small e.number (asked_text n s.clock) s (same_body (asked_text n s.clock) (λ x. refl) (λ x. refl)) h
    by true = ask_body-small e n s h

pub ask-small : {a : As} (k n : ℕ) (s : State) → Small a s → Small a (ask k n s)
unfolding ask
ask-small k n s h = each_of (asking s k) h (λ e. ask_next-small e n s h)
