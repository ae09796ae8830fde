-- What is done for clients keeps what is kept by each change: decisions, replies, asks and closings.
use Rattle.std.proofs.Common.{◌≡◌, refl, ℕ, zero, suc, ◌+◌, ◌-◌, ◌/◌, nat_lt, Bool, true, false, not, ◌==◌, ◌&&◌, ◌||◌, List, map, Some, None, sym, subst, ◌∙◌}
use Rattle.pp_ask.specs.declared.kind.AskKind.{AskKind}
use Rattle.pp_head.specs.Request.{Request}
use Rattle.pp_pass.specs.Pipe.{Pipe}
use Rattle.pp_target.specs.Key.{Key, text_of}
use Rattle.pp_world.specs.declared.note.Decision.TheVariants.{Refuse, Hit, Part, Head, NotModified, Unsatisfiable, Relay, Validate, Fetch, Pass}
use Rattle.pp_world.specs.declared.note.Decision.{Decision}
use Rattle.pp_law.specs.Asking.{asking, is_writing, hear, ask_body, ask_next, ask, hang_up, asked_text, asked_body}
use Rattle.pp_law.specs.Chunks.{chunk_len, use_chunk}
use Rattle.pp_law.specs.Closing.{is_of, left_alone, forsake, is_over, leave, leave_one, exchanges_of, close_client}
use Rattle.pp_law.specs.Connections.{is_client, is_outstanding, is_trying, on_client, on_exchange}
use Rattle.pp_law.specs.Deciding.{refused_with, refuse, begin_exchange, new_exchange, asking_with, ask_for, ask_as, ask_origin, reply_by, answering_with, serves, follow_with, follow_row, follow, relay, is_for_memory, mark_row_of, enter_row, decided_by, decided}
use Rattle.pp_law.specs.Decisions.{kind_of, fits}
use Rattle.pp_law.specs.Followers.{need_of, filling_exchange, fill_with, fill_span, fill_next, fill_for, fill, is_useless_ask, give_up_asks}
use Rattle.pp_law.specs.Hearing.{heard_by}
use Rattle.pp_law.specs.Lists.{Bytes, change, is_some_with}
use Rattle.pp_law.specs.Passing.{pour}
use Rattle.pp_law.specs.Replies.{begun_at_end, is_outrun, begin_replies, use_chunks, use_from, use_said, of_body, is_said, next_request, end_reply, end_said, is_finished, close_finished, end_replies, regained_by, regained}
use Rattle.pp_law.specs.Requests.{key_in}
use Rattle.pp_law.specs.Stages.{on_passed}
use Rattle.pp_law.specs.State.{State, AskTooLong, Client, Exchange, Passed}
use Rattle.pp_law.specs.Table.{Next, next_of, row, row_for}
use Rattle.pp_laws.specs.Runs.{IsIn}
use Rattle.pp_laws.proofs.Callers.{begun_at_end-same, heard_by-same, on_passed-same, regained_by-same}
use Rattle.pp_laws.proofs.Lists.{changed_at, map_kept}
use Rattle.pp_laws.proofs.Sound.{client_number}
use Rattle.pp_laws_bounds.proofs.Counts.{in_map_of}
use Rattle.pp_laws_pool.proofs.View.{View, Walk, Uses, Begins, Holds, holds, facts_of, view, IsNew}
use Rattle.pp_laws_pool.proofs.WalkCases.{by_front, by_result, each_of, when}
use Rattle.pp_laws_pool.proofs.WalkExchanges.{each_client-keeps, each_exchange-keeps, end_exchange-keeps, left_by_number, number_changed, on_client-keeps, on_client_of-keeps, on_exchange-keeps, same_ask}
use Rattle.pp_laws_pool.proofs.WalkRows.{enter-keeps, mark_row-keeps, swept-keeps, use_chunk-keeps}

pub pour-keeps : {P : View → Type 0} (w : Walk P) (e : Exchange) (f : Pipe → Pipe) (s : State) → Holds P s → Holds P (pour e f s)
unfolding pour
pour-keeps w e f s h = on_client_of-keeps w e (on_passed piped) s (λ c. (on_passed-same piped c).number) h
  where
    piped : Passed → Passed
    piped p = record p { pipe = f p.pipe }

-- ---- an exchange that its request leaves

pub forsake-keeps : {P : View → Type 0} (w : Walk P) (test : Exchange → Bool) (s : State) → Holds P s → Holds P (forsake test s)
unfolding forsake
forsake-keeps w test s h = holds (w.left test (view s) (facts_of h))

pub leave-keeps : {P : View → Type 0} (w : Walk P) (test : Exchange → Bool) (s : State) → Holds P s → Holds P (leave test s)
unfolding leave
leave-keeps w test s h = holds (w.over (λ e. not (is_over e)) (view (forsake test s)) (facts_of (forsake-keeps w test s h)))

-- ---- a client is closed

leave_one-keeps : {P : View → Type 0} (w : Walk P) (e : Exchange) (s : State) → Holds P s → Holds P (leave_one e s)
unfolding leave_one
leave_one-keeps w e s h = when (e.asked == 0) (end_exchange-keeps w e.number s h) (left_by_number w e.number s h)

pub close_client-keeps : {P : View → Type 0} (w : Walk P) (n : ℕ) (is_cut : Bool) (s : State) → Holds P s → Holds P (close_client n is_cut s)
unfolding close_client
close_client-keeps w n is_cut s h = swept-keeps w _ (each_exchange-keeps w leave_one (leave_one-keeps w) (exchanges_of n s) _ (on_client-keeps w n (λ c. record c { is_closing = true; is_cut = c.is_cut || is_cut }) s (λ c. refl) h))

-- ---- decisions

refuse-keeps : {P : View → Type 0} (w : Walk P) (c : Client) (status : ℕ) (s : State) → Holds P s → Holds P (refuse c status s)
unfolding refuse
refuse-keeps w c status s h = swept-keeps w _ (leave-keeps w (is_of c.number) _ (on_client-keeps w c.number (refused_with status) s (λ x. refl) h))

pub begin_exchange-keeps : {P : View → Type 0} (w : Walk P) (b : Begins P) (e : Exchange) (s : State) → IsNew e s.clients s.next_exchange → Holds P s → Holds P (begin_exchange e s)
begin_exchange-keeps w b e s is_new h = holds (b e s is_new (facts_of h))

-- the client is there
abbrev IsThere : ℕ → State → Type 0
IsThere n s = IsIn n (map client_number s.clients)

there_changed : (n m : ℕ) (f : Client → Client) (s : State) → ((c : Client) → (f c).number ≡ c.number) → IsThere n s → IsThere n (on_client m f s)
unfolding on_client
there_changed n m f s kept i = subst (λ ns. IsIn n ns) (sym (map_kept client_number (changed_at (is_client m) f) (λ c. number_changed f c (is_client m c) (kept c)) s.clients)) i

ask_for-keeps : {P : View → Type 0} (w : Walk P) (b : Begins P) (c : Client) (d : Decision) (head : Request) (key : Key) (kind : AskKind) (s : State) → IsThere c.number s → Holds P s → Holds P (ask_for c d head key kind s)
unfolding ask_for leave forsake on_client
ask_for-keeps w b c d head key kind s there h =
    swept-keeps w _
    (begin_exchange-keeps w b (new_exchange s c head key d kind) _
    (record { number = refl; place = refl; asker = c.number; is = refl; there = there_changed c.number c.number (asking_with d) s (λ x. refl) there })
    (leave-keeps w (is_of c.number) _ (on_client-keeps w c.number (asking_with d) s (λ x. refl) h)))

ask_as-keeps : {P : View → Type 0} (w : Walk P) (b : Begins P) (c : Client) (d : Decision) (head : Request) (key : Key) (s : State) → IsThere c.number s → Holds P s → Holds P (ask_as c d head key s)
unfolding ask_as
ask_as-keeps w b c d head key s there h = each_of (kind_of head (row_for s head (text_of key)) d) h (λ kind. ask_for-keeps w b c d head key kind s there h)

ask_origin-keeps : {P : View → Type 0} (w : Walk P) (b : Begins P) (c : Client) (d : Decision) (s : State) → IsThere c.number s → Holds P s → Holds P (ask_origin c d s)
unfolding ask_origin
ask_origin-keeps w b c d s there h = by_front c.front h (λ status. h) (λ r. by_result r.key (λ key. ask_as-keeps w b c d r.head key s there h) (λ fault. h))

follow_row-keeps : {P : View → Type 0} (w : Walk P) (c : Client) (d : Decision) (key : Bytes) (s : State) → Holds P s → Holds P (follow_row c d key s)
unfolding follow_row follow_with
follow_row-keeps w c d key s h =
    each_of (row s key) h
    (λ x. swept-keeps w _ (leave-keeps w (λ e. is_of c.number e && not (serves x (reply_by d (Some x.id)) e)) _ (on_client-keeps w c.number (answering_with (reply_by d (Some x.id))) s (λ y. refl) h)))

follow-keeps : {P : View → Type 0} (w : Walk P) (c : Client) (d : Decision) (s : State) → Holds P s → Holds P (follow c d s)
unfolding follow
follow-keeps w c d s h = each_of (key_in c.front) h (λ key. follow_row-keeps w c d (text_of key) s h)

relay-keeps : {P : View → Type 0} (w : Walk P) (c : Client) (s : State) → Holds P s → Holds P (relay c s)
unfolding relay
relay-keeps w c s h = swept-keeps w _ (on_client-keeps w c.number (answering_with (reply_by Relay None)) s (λ x. refl) h)

mark_row_of-keeps : {P : View → Type 0} (w : Walk P) (key : Bytes) (s : State) → Holds P s → Holds P (mark_row_of key s)
unfolding mark_row_of
mark_row_of-keeps w key s h = each_of (row s key) h (λ x. mark_row-keeps w x.id s h)

enter_row-keeps : {P : View → Type 0} (w : Walk P) (c : Client) (d : Decision) (s : State) → Holds P s → Holds P (enter_row c d s)
unfolding enter_row
enter_row-keeps w c d s h = when (is_for_memory d) h (each_of (key_in c.front) h (λ key. mark_row_of-keeps w (text_of key) _ (enter-keeps w (text_of key) false s h)))

decided_by-keeps : {P : View → Type 0} (w : Walk P) (b : Begins P) (c : Client) (d : Decision) (s : State) → IsThere c.number s → Holds P s → Holds P (decided_by c d s)
unfolding decided_by
decided_by-keeps w b c (Refuse status) s there h = refuse-keeps w c status s h
decided_by-keeps w b c Pass s there h = ask_origin-keeps w b c Pass s there h
decided_by-keeps w b c Fetch s there h = ask_origin-keeps w b c Fetch s there h
decided_by-keeps w b c Validate s there h = ask_origin-keeps w b c Validate s there h
decided_by-keeps w b c Relay s there h = relay-keeps w c s h
decided_by-keeps w b c (Hit from to) s there h = follow-keeps w c (Hit from to) s h
decided_by-keeps w b c (Part from to) s there h = follow-keeps w c (Part from to) s h
decided_by-keeps w b c Head s there h = follow-keeps w c Head s h
decided_by-keeps w b c NotModified s there h = follow-keeps w c NotModified s h
decided_by-keeps w b c Unsatisfiable s there h = follow-keeps w c Unsatisfiable s h

-- the clients that are there stay while nothing but this is done
abbrev AreThose : List ℕ → View → Type 0
AreThose ns v = map client_number v.clients ≡ ns

those_stay : (ns : List ℕ) → Walk (AreThose ns)
unfolding on_exchange
those_stay ns = record {
  clients = λ f kept v h. map_kept client_number f kept v.clients ∙ h;
  asks = λ f kept v h. h;
  left = λ test v h. h;
  over = λ test v h. h;
  conns = λ f lesser v h. h;
  chunks = λ test v h. h;
  again = λ n s may h. h;
}

entered_there : (c : Client) (d : Decision) (s : State) → IsIn c s.clients → IsThere c.number (enter_row c d s)
entered_there c d s i = subst (λ ns. IsIn c.number ns) (sym (facts_of (enter_row-keeps (those_stay (map client_number s.clients)) c d s (holds refl)))) (in_map_of client_number c s.clients i)

pub decided-keeps : {P : View → Type 0} (w : Walk P) (b : Begins P) (c : Client) (d : Decision) (s : State) → IsIn c s.clients → Holds P s → Holds P (decided c d s)
unfolding decided
decided-keeps w b c d s i h = decided_by-keeps w b c d _ (entered_there c d s i) (enter_row-keeps w c d s h)

-- ---- replies

pub begin_replies-keeps : {P : View → Type 0} (w : Walk P) (s : State) → Holds P s → Holds P (begin_replies s)
unfolding begin_replies
begin_replies-keeps w s h = swept-keeps w _ (forsake-keeps w (is_outrun s) _ (holds (w.clients (begun_at_end s) (λ c. (begun_at_end-same s c).number) (view s) (facts_of h))))

use_chunks-keeps : {P : View → Type 0} (u : Uses P) (more id i : ℕ) (s : State) → Holds P s → Holds P (use_chunks more id i s)
unfolding use_chunks
use_chunks-keeps u zero id i s h = h
use_chunks-keeps u (suc more) id i s h = use_chunks-keeps u more id (i + 1) (use_chunk id i s) (use_chunk-keeps u id i s h)

use_from-keeps : {P : View → Type 0} (u : Uses P) (n : ℕ) (x : Next) (s : State) → Holds P s → Holds P (use_from n x s)
unfolding use_from
use_from-keeps u n x s h = use_chunks-keeps u _ x.source.id (x.at / chunk_len) s h

pub use_said-keeps : {P : View → Type 0} (u : Uses P) (n : ℕ) (c : Client) (s : State) → Holds P s → Holds P (use_said n c s)
unfolding use_said
use_said-keeps u n c s h = when (nat_lt 0 (of_body n c)) (each_of (next_of s c) h (λ x. use_from-keeps u (of_body n c) x s h)) h

end_reply-keeps : {P : View → Type 0} (w : Walk P) (c : Client) (s : State) → Holds P s → Holds P (end_reply c s)
unfolding end_reply
end_reply-keeps w c s h = when c.closes (close_client-keeps w c.number false s h) (swept-keeps w _ (forsake-keeps w (is_of c.number) _ (on_client-keeps w c.number next_request s (λ x. refl) h)))

end_said-keeps : {P : View → Type 0} (w : Walk P) (c : Client) (s : State) → Holds P s → Holds P (end_said c s)
unfolding end_said
end_said-keeps w c s h = when (is_said c && not c.is_closing) (end_reply-keeps w c s h) h

close_finished-keeps : {P : View → Type 0} (w : Walk P) (c : Client) (s : State) → Holds P s → Holds P (close_finished c s)
unfolding close_finished
close_finished-keeps w c s h = when (is_finished c) (close_client-keeps w c.number false s h) h

pub end_replies-keeps : {P : View → Type 0} (w : Walk P) (s : State) → Holds P s → Holds P (end_replies s)
unfolding end_replies
end_replies-keeps w s h = each_client-keeps w close_finished (λ c t i ht. close_finished-keeps w c t ht) _ _ (each_client-keeps w end_said (λ c t i ht. end_said-keeps w c t ht) _ s h)

pub regained-keeps : {P : View → Type 0} (w : Walk P) (s : State) → Holds P s → Holds P (regained s)
unfolding regained
regained-keeps w s h = holds (w.clients (regained_by s) (λ c. (regained_by-same s c).number) (view s) (facts_of h))

-- ---- what followers ask for

fill_with-keeps : {P : View → Type 0} (w : Walk P) (b : Begins P) (e : Exchange) (c : Client) (s : State) → IsNew e s.clients s.next_exchange → Holds P s → Holds P (fill_with e c s)
unfolding fill_with
fill_with-keeps w b e c s is_new h = when (fits e.text) (begin_exchange-keeps w b e s is_new h) (on_client-keeps w c.number (λ x. record x { course = AskTooLong }) s (λ x. refl) h)

fill_span-keeps : {P : View → Type 0} (w : Walk P) (b : Begins P) (c : Client) (n : Next) (span : ℕ × ℕ) (s : State) → IsIn c s.clients → Holds P s → Holds P (fill_span c n span s)
unfolding fill_span
fill_span-keeps w b c n span s i h =
    by_front c.front h (λ status. h) (λ r. by_result r.key (λ key. fill_with-keeps w b (filling_exchange s c r.head key n span) c s (record { number = refl; place = refl; asker = c.number; is = refl; there = in_map_of client_number c s.clients i }) h) (λ fault. h))

fill_next-keeps : {P : View → Type 0} (w : Walk P) (b : Begins P) (c : Client) (n : Next) (s : State) → IsIn c s.clients → Holds P s → Holds P (fill_next c n s)
unfolding fill_next
fill_next-keeps w b c n s i h = each_of (need_of s n) h (λ span. fill_span-keeps w b c n span s i h)

fill_for-keeps : {P : View → Type 0} (w : Walk P) (b : Begins P) (c : Client) (s : State) → IsIn c s.clients → Holds P s → Holds P (fill_for c s)
unfolding fill_for
fill_for-keeps w b c s i h = when (is_trying c.course) (each_of (next_of s c) h (λ n. fill_next-keeps w b c n s i h)) h

pub fill-keeps : {P : View → Type 0} (w : Walk P) (b : Begins P) (s : State) → Holds P s → Holds P (fill s)
unfolding fill
fill-keeps w b s h = when s.is_stopped h (each_client-keeps w fill_for (fill_for-keeps w b) _ s h)

pub give_up_asks-keeps : {P : View → Type 0} (w : Walk P) (s : State) → Holds P s → Holds P (give_up_asks s)
unfolding give_up_asks
give_up_asks-keeps w s h = holds (w.over (λ e. not (is_useless_ask s e)) (view s) (facts_of h))

-- ---- what is heard and asked

pub hear-keeps : {P : View → Type 0} (w : Walk P) (n : ℕ) (bytes : Bytes) (s : State) → Holds P s → Holds P (hear n bytes s)
unfolding hear
hear-keeps w n bytes s h = end_replies-keeps w _ (on_client-keeps w n (heard_by bytes) s (λ c. (heard_by-same bytes c).number) h)

pub hang_up-keeps : {P : View → Type 0} (w : Walk P) (n : ℕ) (s : State) → Holds P s → Holds P (hang_up n s)
unfolding hang_up
hang_up-keeps w n s h = when (is_writing s.owed n) (close_client-keeps w n false s h) (end_replies-keeps w _ (on_client-keeps w n (λ c. record c { has_hung_up = true }) s (λ c. refl) h))

ask_body-keeps : {P : View → Type 0} (w : Walk P) (e : Exchange) (n : ℕ) (s : State) → Holds P s → Holds P (ask_body e n s)
unfolding ask_body
ask_body-keeps w e n s h = on_client_of-keeps w e (asked_body n) _ (λ c. refl) (on_exchange-keeps w e.number (λ x. record x { body_left = x.body_left - n }) s (λ x. same_ask _ x refl refl refl refl refl refl) h)

ask_next-keeps : {P : View → Type 0} (w : Walk P) (e : Exchange) (n : ℕ) (s : State) → Holds P s → Holds P (ask_next e n s)
unfolding ask_next
ask_next-keeps {P} w e n s h = by (is_outstanding e)
  where
    by : (t : Bool) → Holds P (elim t as (λ c. State) [ false ↦ on_exchange e.number (asked_text n s.clock) s | true ↦ ask_body e n s ])
    by false = on_exchange-keeps w e.number (asked_text n s.clock) s (λ x. same_ask _ x refl refl refl refl refl refl) h
    by true = ask_body-keeps w e n s h

pub ask-keeps : {P : View → Type 0} (w : Walk P) (k n : ℕ) (s : State) → Holds P s → Holds P (ask k n s)
unfolding ask
ask-keeps w k n s h = each_of (asking s k) h (λ e. ask_next-keeps w e n s h)
