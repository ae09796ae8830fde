-- What is done for clients keeps the bounds: decisions, replies, asks and closings.
use Rattle.std.proofs.Common.{◌≡◌, refl, ℕ, zero, suc, ◌+◌, ◌-◌, ◌/◌, ◌≤◌, nat_lt, Bool, true, false, not, ◌==◌, ◌&&◌, ◌||◌, List, length, Some, None, sym, subst, ap, ◌∙◌}
use Rattle.pp_ask.specs.declared.kind.AskKind.{AskKind}
use Rattle.pp_head.specs.Request.{Request}
use Rattle.pp_pass.specs.Pipe.{Pipe}
use Rattle.pp_target.specs.Key.{Key, text_of}
use Rattle.pp_world.specs.declared.note.Decision.TheVariants.{Refuse, Hit, Part, Head, NotModified, Unsatisfiable, Relay, Validate, Fetch, Pass}
use Rattle.pp_world.specs.declared.note.Decision.{Decision}
use Rattle.pp_law.specs.Asking.{asking, is_writing, hear, ask_body, ask_next, ask, hang_up, asked_text, asked_body}
use Rattle.pp_law.specs.Chunks.{chunk_len, use_chunk}
use Rattle.pp_law.specs.Closing.{is_of, left_alone, forsake, is_over, leave, leave_one, exchanges_of, close_client}
use Rattle.pp_law.specs.Connections.{is_exchange, is_outstanding, on_exchange, is_trying}
use Rattle.pp_law.specs.Deciding.{refused_with, refuse, add_exchange, begin_exchange, new_exchange, asking_with, ask_for, ask_as, ask_origin, reply_by, answering_with, serves, follow_with, follow_row, follow, relay, is_for_memory, mark_row_of, enter_row, decided_by, decided}
use Rattle.pp_law.specs.Decisions.{kind_of, fits}
use Rattle.pp_law.specs.Followers.{need_of, filling_exchange, fill_with, fill_span, fill_next, fill_for, fill, is_useless_ask, give_up_asks}
use Rattle.pp_law.specs.Hearing.{heard_by}
use Rattle.pp_law.specs.Lists.{Bytes, change, is_some_with}
use Rattle.pp_law.specs.Passing.{pour}
use Rattle.pp_law.specs.Replies.{begun_at_end, is_outrun, begin_replies, use_chunks, use_from, use_said, of_body, is_said, next_request, end_reply, end_said, is_finished, close_finished, end_replies, regained_by, regained}
use Rattle.pp_law.specs.Requests.{key_in}
use Rattle.pp_law.specs.Stages.{on_passed}
use Rattle.pp_law.specs.State.{State, AskTooLong, Client, Exchange}
use Rattle.pp_law.specs.Table.{Next, next_of, row, row_for}
use Rattle.pp_laws.specs.Runs.{IsIn}
use Rattle.pp_laws.proofs.Lists.{Changed, in_change, other, same}
use Rattle.pp_laws.proofs.Tests.{same_number}
use Rattle.pp_laws_bounds.proofs.Cases.{by_front, by_result, each_of, each_so, when}
use Rattle.pp_laws_bounds.proofs.Changes.{ExchangeFrom, clients_mapped, exchange_pushed, exchanges_changed, exchanges_filtered, exchanges_kept, same_exchange}
use Rattle.pp_laws_bounds.proofs.Exchanges.{each_client-kept, each_exchange-kept, end_exchange-kept, on_client-kept, on_client_of-kept, on_exchange-kept, swept-kept}
use Rattle.pp_laws_bounds.proofs.Kept.{Kept, facts_of, kept}
use Rattle.pp_laws_bounds.proofs.Rows.{enter-kept, mark_row-kept, use_chunk-kept}

pub pour-kept : {but : List ℕ} (e : Exchange) (f : Pipe → Pipe) (s : State) → Kept but s → Kept but (pour e f s)
unfolding pour
pour-kept e f s h = on_client_of-kept e (on_passed (λ p. record p { pipe = f p.pipe })) s h

-- ---- an exchange that its request leaves

pub forsake-kept : {but : List ℕ} (test : Exchange → Bool) (s : State) → Kept but s → Kept but (forsake test s)
unfolding forsake
forsake-kept {but} test s h = kept (exchanges_changed but s test left_alone (λ e. same_exchange (left_alone e) e refl refl refl refl) (facts_of h))

pub leave-kept : {but : List ℕ} (test : Exchange → Bool) (s : State) → Kept but s → Kept but (leave test s)
unfolding leave
leave-kept {but} test s h = kept (exchanges_filtered but (forsake test s) (λ e. not (is_over e)) (facts_of (forsake-kept test s h)))

-- ---- a client is closed

leave_one-kept : {but : List ℕ} (e : Exchange) (s : State) → Kept but s → Kept but (leave_one e s)
unfolding leave_one
leave_one-kept e s h = when (e.asked == 0) (end_exchange-kept e.number s h) (on_exchange-kept e.number left_alone s (λ d. same_exchange (left_alone d) d refl refl refl refl) h)

pub close_client-kept : {but : List ℕ} (n : ℕ) (is_cut : Bool) (s : State) → Kept but s → Kept but (close_client n is_cut s)
unfolding close_client
close_client-kept n is_cut s h = swept-kept _ (each_exchange-kept leave_one leave_one-kept (exchanges_of n s) _ (on_client-kept n (λ c. record c { is_closing = true; is_cut = c.is_cut || is_cut }) s h))

-- ---- decisions

refuse-kept : {but : List ℕ} (c : Client) (status : ℕ) (s : State) → Kept but s → Kept but (refuse c status s)
unfolding refuse
refuse-kept c status s h = swept-kept _ (leave-kept (is_of c.number) _ (on_client-kept c.number (refused_with status) s h))

add_exchange-kept : {but : List ℕ} (e : Exchange) (s : State) → e.place ≡ None → e.asked ≡ 0 → Kept but s → Kept but (add_exchange e s)
unfolding add_exchange
add_exchange-kept {but} e s none fresh h = kept (exchange_pushed but s e (s.next_exchange + 1) none fresh (facts_of h))

begin_exchange-kept : {but : List ℕ} (e : Exchange) (s : State) → e.place ≡ None → e.asked ≡ 0 → Kept but s → Kept but (begin_exchange e s)
unfolding begin_exchange
begin_exchange-kept e s none fresh h = add_exchange-kept e _ none fresh (leave-kept (λ x. is_some_with (λ n. is_of n x) e.asker) s h)

ask_for-kept : {but : List ℕ} (c : Client) (d : Decision) (head : Request) (key : Key) (kind : AskKind) (s : State) → Kept but s → Kept but (ask_for c d head key kind s)
unfolding ask_for
ask_for-kept c d head key kind s h = swept-kept _ (begin_exchange-kept (new_exchange s c head key d kind) _ refl refl (leave-kept (is_of c.number) _ (on_client-kept c.number (asking_with d) s h)))

ask_as-kept : {but : List ℕ} (c : Client) (d : Decision) (head : Request) (key : Key) (s : State) → Kept but s → Kept but (ask_as c d head key s)
unfolding ask_as
ask_as-kept c d head key s h = each_of (kind_of head (row_for s head (text_of key)) d) h (λ kind. ask_for-kept c d head key kind s h)

ask_origin-kept : {but : List ℕ} (c : Client) (d : Decision) (s : State) → Kept but s → Kept but (ask_origin c d s)
unfolding ask_origin
ask_origin-kept c d s h = by_front c.front h (λ status. h) (λ r. by_result r.key (λ key. ask_as-kept c d r.head key s h) (λ fault. h))

follow_row-kept : {but : List ℕ} (c : Client) (d : Decision) (key : Bytes) (s : State) → Kept but s → Kept but (follow_row c d key s)
unfolding follow_row follow_with
follow_row-kept c d key s h =
    each_of (row s key) h
    (λ x. swept-kept _ (leave-kept (λ e. is_of c.number e && not (serves x (reply_by d (Some x.id)) e)) _ (on_client-kept c.number (answering_with (reply_by d (Some x.id))) s h)))

follow-kept : {but : List ℕ} (c : Client) (d : Decision) (s : State) → Kept but s → Kept but (follow c d s)
unfolding follow
follow-kept c d s h = each_of (key_in c.front) h (λ key. follow_row-kept c d (text_of key) s h)

relay-kept : {but : List ℕ} (c : Client) (s : State) → Kept but s → Kept but (relay c s)
unfolding relay
relay-kept c s h = swept-kept _ (on_client-kept c.number (answering_with (reply_by Relay None)) s h)

mark_row_of-kept : {but : List ℕ} (key : Bytes) (s : State) → Kept but s → Kept but (mark_row_of key s)
unfolding mark_row_of
mark_row_of-kept key s h = each_of (row s key) h (λ x. mark_row-kept x.id s h)

enter_row-kept : {but : List ℕ} (c : Client) (d : Decision) (s : State) → Kept but s → Kept but (enter_row c d s)
unfolding enter_row
enter_row-kept c d s h = when (is_for_memory d) h (each_of (key_in c.front) h (λ key. mark_row_of-kept (text_of key) _ (enter-kept (text_of key) false s h)))

decided_by-kept : {but : List ℕ} (c : Client) (d : Decision) (s : State) → Kept but s → Kept but (decided_by c d s)
unfolding decided_by
decided_by-kept c (Refuse status) s h = refuse-kept c status s h
decided_by-kept c Pass s h = ask_origin-kept c Pass s h
decided_by-kept c Fetch s h = ask_origin-kept c Fetch s h
decided_by-kept c Validate s h = ask_origin-kept c Validate s h
decided_by-kept c Relay s h = relay-kept c s h
decided_by-kept c (Hit from to) s h = follow-kept c (Hit from to) s h
decided_by-kept c (Part from to) s h = follow-kept c (Part from to) s h
decided_by-kept c Head s h = follow-kept c Head s h
decided_by-kept c NotModified s h = follow-kept c NotModified s h
decided_by-kept c Unsatisfiable s h = follow-kept c Unsatisfiable s h

pub decided-kept : {but : List ℕ} (c : Client) (d : Decision) (s : State) → Kept but s → Kept but (decided c d s)
unfolding decided
decided-kept c d s h = decided_by-kept c d _ (enter_row-kept c d s h)

-- ---- replies

pub begin_replies-kept : {but : List ℕ} (s : State) → Kept but s → Kept but (begin_replies s)
unfolding begin_replies
begin_replies-kept {but} s h = swept-kept _ (forsake-kept (is_outrun s) _ (kept (clients_mapped but s (begun_at_end s) (facts_of h))))

use_chunks-kept : {but : List ℕ} (more id i : ℕ) (s : State) → Kept but s → Kept but (use_chunks more id i s)
unfolding use_chunks
use_chunks-kept zero id i s h = h
use_chunks-kept (suc more) id i s h = use_chunks-kept more id (i + 1) (use_chunk id i s) (use_chunk-kept id i s h)

use_from-kept : {but : List ℕ} (n : ℕ) (x : Next) (s : State) → Kept but s → Kept but (use_from n x s)
unfolding use_from
use_from-kept n x s h = use_chunks-kept _ x.source.id (x.at / chunk_len) s h

pub use_said-kept : {but : List ℕ} (n : ℕ) (c : Client) (s : State) → Kept but s → Kept but (use_said n c s)
unfolding use_said
use_said-kept n c s h = when (nat_lt 0 (of_body n c)) (each_of (next_of s c) h (λ x. use_from-kept (of_body n c) x s h)) h

end_reply-kept : {but : List ℕ} (c : Client) (s : State) → Kept but s → Kept but (end_reply c s)
unfolding end_reply
end_reply-kept c s h = when c.closes (close_client-kept c.number false s h) (swept-kept _ (forsake-kept (is_of c.number) _ (on_client-kept c.number next_request s h)))

end_said-kept : {but : List ℕ} (c : Client) (s : State) → Kept but s → Kept but (end_said c s)
unfolding end_said
end_said-kept c s h = when (is_said c && not c.is_closing) (end_reply-kept c s h) h

close_finished-kept : {but : List ℕ} (c : Client) (s : State) → Kept but s → Kept but (close_finished c s)
unfolding close_finished
close_finished-kept c s h = when (is_finished c) (close_client-kept c.number false s h) h

pub end_replies-kept : {but : List ℕ} (s : State) → Kept but s → Kept but (end_replies s)
unfolding end_replies
end_replies-kept s h = each_client-kept close_finished close_finished-kept _ _ (each_client-kept end_said end_said-kept _ s h)

pub regained-kept : {but : List ℕ} (s : State) → Kept but s → Kept but (regained s)
unfolding regained
regained-kept {but} s h = kept (clients_mapped but s (regained_by s) (facts_of h))

-- ---- what followers ask for

fill_with-kept : {but : List ℕ} (e : Exchange) (c : Client) (s : State) → e.place ≡ None → e.asked ≡ 0 → Kept but s → Kept but (fill_with e c s)
unfolding fill_with
fill_with-kept e c s none fresh h = when (fits e.text) (begin_exchange-kept e s none fresh h) (on_client-kept c.number (λ x. record x { course = AskTooLong }) s h)

fill_span-kept : {but : List ℕ} (c : Client) (n : Next) (span : ℕ × ℕ) (s : State) → Kept but s → Kept but (fill_span c n span s)
unfolding fill_span
fill_span-kept c n span s h =
    by_front c.front h (λ status. h) (λ r. by_result r.key (λ key. fill_with-kept (filling_exchange s c r.head key n span) c s refl refl h) (λ fault. h))

fill_next-kept : {but : List ℕ} (c : Client) (n : Next) (s : State) → Kept but s → Kept but (fill_next c n s)
unfolding fill_next
fill_next-kept c n s h = each_of (need_of s n) h (λ span. fill_span-kept c n span s h)

fill_for-kept : {but : List ℕ} (c : Client) (s : State) → Kept but s → Kept but (fill_for c s)
unfolding fill_for
fill_for-kept c s h = when (is_trying c.course) (each_of (next_of s c) h (λ n. fill_next-kept c n s h)) h

pub fill-kept : {but : List ℕ} (s : State) → Kept but s → Kept but (fill s)
unfolding fill
fill-kept s h = when s.is_stopped h (each_client-kept fill_for fill_for-kept _ s h)

pub give_up_asks-kept : {but : List ℕ} (s : State) → Kept but s → Kept but (give_up_asks s)
unfolding give_up_asks
give_up_asks-kept {but} s h = kept (exchanges_filtered but s (λ e. not (is_useless_ask s e)) (facts_of h))

-- ---- what is heard and asked

pub hear-kept : {but : List ℕ} (n : ℕ) (bytes : Bytes) (s : State) → Kept but s → Kept but (hear n bytes s)
unfolding hear
hear-kept n bytes s h = end_replies-kept _ (on_client-kept n (heard_by bytes) s h)

pub hang_up-kept : {but : List ℕ} (n : ℕ) (s : State) → Kept but s → Kept but (hang_up n s)
unfolding hang_up
hang_up-kept n s h = when (is_writing s.owed n) (close_client-kept n false s h) (end_replies-kept _ (on_client-kept n (λ c. record c { has_hung_up = true }) s h))

ask_body-kept : {but : List ℕ} (e : Exchange) (n : ℕ) (s : State) → Kept but s → Kept but (ask_body e n s)
unfolding ask_body
ask_body-kept e n s h = on_client_of-kept e (asked_body n) _ (on_exchange-kept e.number (λ x. record x { body_left = x.body_left - n }) s (λ x. same_exchange _ x refl refl refl refl) h)

-- what is asked next of an exchange that is there is no more than is left of it
abbrev pub IsLeft : ℕ → Exchange → State → Type 0
IsLeft n e s = is_outstanding e ≡ false → (d : Exchange) → IsIn d s.exchanges → d.number ≡ e.number → d.asked + n ≤ length d.text

asked-kept : {but : List ℕ} (e : Exchange) (n : ℕ) (s : State) → ((d : Exchange) → IsIn d s.exchanges → d.number ≡ e.number → d.asked + n ≤ length d.text) → Kept but s → Kept but (on_exchange e.number (asked_text n s.clock) s)
unfolding on_exchange
asked-kept {but} e n s left h = kept (exchanges_kept but s (change (is_exchange e.number) (asked_text n s.clock) s.exchanges) (λ d i. from d (in_change (is_exchange e.number) (asked_text n s.clock) d s.exchanges i)) (facts_of h))
  where
    from : (d : Exchange) → Changed (is_exchange e.number) (asked_text n s.clock) s.exchanges d → ExchangeFrom s.exchanges d
    from d (same i isnt) = record { was = d; there = i; number = refl; place = λ m is. is; fits = λ le. le }
    from d (other g i hit eq) = record {
      was = g;
      there = i;
      number = ap (λ (x : Exchange). x.number) eq;
      place = λ m is. sym (ap (λ (x : Exchange). x.place) eq) ∙ is;
      fits = λ le. subst (λ (x : Exchange). x.asked ≤ length x.text) (sym eq) (left g i (same_number g.number e.number hit));
    }

ask_next-kept : {but : List ℕ} (e : Exchange) (n : ℕ) (s : State) → IsLeft n e s → Kept but s → Kept but (ask_next e n s)
unfolding ask_next
ask_next-kept {but} e n s left h = by (is_outstanding e) refl
  where
    by : (t : Bool) → is_outstanding e ≡ t → Kept but (elim t as (λ c. State) [ false ↦ on_exchange e.number (asked_text n s.clock) s | true ↦ ask_body e n s ])
    by false isnt = asked-kept e n s (left isnt) h
    by true is = ask_body-kept e n s h

pub ask-kept : {but : List ℕ} (k n : ℕ) (s : State) → ((e : Exchange) → asking s k ≡ Some e → IsLeft n e s) → Kept but s → Kept but (ask k n s)
unfolding ask
ask-kept k n s left h = each_so (asking s k) (λ none. h) (λ e is. ask_next-kept e n s (left e is) h)
