-- What is done for clients keeps what is sound: decisions, replies, asks and closings.
use Rattle.std.proofs.Common.{◌≡◌, refl, ℕ, zero, suc, ◌+◌, ◌-◌, ◌/◌, ◌<◌, nat_lt, bytes_eq, Bool, true, false, not, ◌==◌, ◌&&◌, ◌||◌, Option, Some, None, sym, subst, ap, ◌∙◌}
use Rattle.pp_ask.specs.declared.kind.AskKind.{AskKind}
use Rattle.pp_head.specs.Request.{Request}
use Rattle.pp_pass.specs.Pipe.{Pipe}
use Rattle.pp_target.specs.Key.{Key, text_of}
use Rattle.pp_world.specs.declared.note.Decision.TheVariants.{Refuse, Hit, Part, Head, NotModified, Unsatisfiable, Relay, Validate, Fetch, Pass}
use Rattle.pp_world.specs.declared.note.Decision.{Decision}
use Rattle.pp_law.specs.Asking.{asking, is_writing, hear, ask_body, ask_next, ask, hang_up, asked_text, asked_body}
use Rattle.pp_law.specs.Chunks.{chunk_len, use_chunk}
use Rattle.pp_law.specs.Closing.{is_of, left_alone, forsake, is_over, leave, leave_one, exchanges_of, close_client}
use Rattle.pp_law.specs.Connections.{is_client, is_outstanding, on_client, is_trying}
use Rattle.pp_law.specs.Deciding.{refused_with, refuse, add_exchange, begin_exchange, new_exchange, asking_with, ask_for, ask_as, ask_origin, reply_by, answering_with, serves, follow_with, follow_row, follow, relay, is_for_memory, mark_row_of, enter_row, decided_by, decided}
use Rattle.pp_law.specs.Decisions.{kind_of, fits}
use Rattle.pp_law.specs.Followers.{need_of, filling_exchange, fill_with, fill_span, fill_next, fill_for, fill, is_useless_ask, give_up_asks}
use Rattle.pp_law.specs.Hearing.{heard_by}
use Rattle.pp_law.specs.Lists.{Bytes, change, is_some_with}
use Rattle.pp_law.specs.Passing.{pour}
use Rattle.pp_law.specs.Replies.{begun_at_end, is_outrun, begin_replies, use_chunks, use_from, use_said, of_body, is_said, next_request, end_reply, end_said, is_finished, close_finished, end_replies, regained_by, regained}
use Rattle.pp_law.specs.Requests.{key_in}
use Rattle.pp_law.specs.Stages.{is_passing, on_passed, bound_of}
use Rattle.pp_law.specs.State.{State, AskTooLong, Client, Exchange, Instance, Passed}
use Rattle.pp_law.specs.Table.{is_row_of, Next, next_of, row, row_on_disk, rows, idle_row, row_for, mark_row, on_instance, forget, forget_row, with_room, add_row, enter}
use Rattle.pp_laws.specs.Runs.{IsIn}
use Rattle.pp_laws.proofs.Callers.{asking_with-same, begun_at_end-same, heard_by-same, next_request-same, on_passed-same, refused_with-same, regained_by-same, relayed-same, same_parts}
use Rattle.pp_laws.proofs.Cases.{by_front, by_result, each_of, each_so, when}
use Rattle.pp_laws.proofs.Exchanges.{each_client-sound, each_exchange-sound, end_exchange-sound, on_client-sound, on_client_of-sound, on_exchange-sound}
use Rattle.pp_laws.proofs.KeptClients.{client_follows, clients_mapped}
use Rattle.pp_laws.proofs.KeptExchanges.{SameExchange, exchange_pushed, exchanges_changed, exchanges_filtered}
use Rattle.pp_laws.proofs.Lists.{in_find, one_of, the_one}
use Rattle.pp_laws.proofs.Rows.{enter-sound, mark_row-sound, swept-sound, use_chunk-sound}
use Rattle.pp_laws.proofs.Sound.{FactsOf, Follows, Since, Sound, client_number, facts_of, instance_id, sound}
use Rattle.pp_laws.proofs.Tests.{same_bytes, same_number, second_holds}

-- ---- a response that is passed

pub pour-sound : {b : Since} (e : Exchange) (f : Pipe → Pipe) (s : State) → Sound b s → Sound b (pour e f s)
unfolding pour
pour-sound e f s h = on_client_of-sound e (on_passed (piped f)) s (on_passed-same (piped f)) h
  where
    piped : (Pipe → Pipe) → Passed → Passed
    piped g p = record p { pipe = g p.pipe }

-- ---- an exchange that its request leaves

left_alone-same : (e : Exchange) → SameExchange (left_alone e) e
left_alone-same e = record { number = refl; key = refl; aim = refl; place = refl; headed = refl; bound = refl }

pub forsake-sound : {b : Since} (test : Exchange → Bool) (s : State) → Sound b s → Sound b (forsake test s)
unfolding forsake
forsake-sound {b} test s h = sound (exchanges_changed b s test left_alone left_alone-same (facts_of h))

pub leave-sound : {b : Since} (test : Exchange → Bool) (s : State) → Sound b s → Sound b (leave test s)
unfolding leave
leave-sound {b} test s h = sound (exchanges_filtered b (forsake test s) (λ e. not (is_over e)) (facts_of (forsake-sound test s h)))

-- ---- a client is closed

pub leave_one-sound : {b : Since} (e : Exchange) (s : State) → Sound b s → Sound b (leave_one e s)
unfolding leave_one
leave_one-sound e s h = when (e.asked == 0) (end_exchange-sound e.number s h) (on_exchange-sound e.number left_alone s left_alone-same h)

pub close_client-sound : {b : Since} (n : ℕ) (is_cut : Bool) (s : State) → Sound b s → Sound b (close_client n is_cut s)
unfolding close_client
close_client-sound n is_cut s h = swept-sound _ (each_exchange-sound leave_one (λ e t there. leave_one-sound e t) (exchanges_of n s) _ (on_client-sound n (λ c. record c { is_closing = true; is_cut = c.is_cut || is_cut }) s (λ c. same_parts _ c refl refl refl) h))

-- ---- decisions

pub refuse-sound : {b : Since} (c : Client) (status : ℕ) (s : State) → Sound b s → Sound b (refuse c status s)
unfolding refuse
refuse-sound c status s h = swept-sound _ (leave-sound (is_of c.number) _ (on_client-sound c.number (refused_with status) s (refused_with-same status) h))

add_exchange-sound : {b : Since} (e : Exchange) (s : State) → e.number ≡ s.next_exchange → bound_of e ≡ None → Sound b s → Sound b (add_exchange e s)
unfolding add_exchange
add_exchange-sound {b} e s number none h = sound (exchange_pushed b s e number none (facts_of h))

pub begin_exchange-sound : {b : Since} (e : Exchange) (s : State) → e.number ≡ s.next_exchange → bound_of e ≡ None → Sound b s → Sound b (begin_exchange e s)
unfolding begin_exchange leave forsake
begin_exchange-sound e s number none h = add_exchange-sound e _ number none (leave-sound (λ x. is_some_with (λ n. is_of n x) e.asker) s h)

pub ask_for-sound : {b : Since} (c : Client) (d : Decision) (head : Request) (key : Key) (kind : AskKind) (s : State) → Sound b s → Sound b (ask_for c d head key kind s)
unfolding ask_for leave forsake on_client
ask_for-sound c d head key kind s h = swept-sound _ (begin_exchange-sound (new_exchange s c head key d kind) _ refl refl (leave-sound (is_of c.number) _ (on_client-sound c.number (asking_with d) s (asking_with-same d) h)))

pub ask_as-sound : {b : Since} (c : Client) (d : Decision) (head : Request) (key : Key) (s : State) → Sound b s → Sound b (ask_as c d head key s)
unfolding ask_as
ask_as-sound c d head key s h = each_of (kind_of head (row_for s head (text_of key)) d) h (λ kind. ask_for-sound c d head key kind s h)

pub ask_origin-sound : {b : Since} (c : Client) (d : Decision) (s : State) → Sound b s → Sound b (ask_origin c d s)
unfolding ask_origin
ask_origin-sound c d s h = by_front c.front h (λ status. h) (λ r. by_result r.key (λ key. ask_as-sound c d r.head key s h) (λ fault. h))

-- the client that is decided for is as it was seen
abbrev pub IsCurrent : Client → State → Type 0
IsCurrent c s = (d : Client) → IsIn d s.clients → d.number ≡ c.number → d.front ≡ c.front

row_of-key : (key : Bytes) (s : State) (x : Instance) → row s key ≡ Some x → IsIn x s.instances × (x.key ≡ key)
row_of-key key s x found =
    let there = in_find (is_row_of key) x s.instances found in
    (there.0, same_bytes x.key key (second_holds (not x.is_retired) (bytes_eq x.key key) there.1))

pub follow_row-sound : {b : Since} (c : Client) (d : Decision) (key : Key) (s : State) → is_passing d ≡ false → key_in c.front ≡ Some key → IsCurrent c s → Sound b s → Sound b (follow_row c d (text_of key) s)
unfolding follow_row follow_with on_client
follow_row-sound {b} c d key s kept asks current h =
    each_so (row s (text_of key)) (λ none. h)
    (λ x found. swept-sound _ (leave-sound (λ e. is_of c.number e && not (serves x (reply_by d (Some x.id)) e)) _ (sound (by x (row_of-key (text_of key) s x found)))))
  where
    by : (x : Instance) → IsIn x s.instances × (x.key ≡ text_of key) → FactsOf b (record s { clients = change (is_client c.number) (answering_with (reply_by d (Some x.id))) s.clients })
    by x there = client_follows b s (is_client c.number) (answering_with (reply_by d (Some x.id))) (λ e. refl) follows (facts_of h)
      where
        follows : (e : Client) (id : ℕ) → IsIn e s.clients → is_client c.number e ≡ true → Some x.id ≡ Some id → Follows (answering_with (reply_by d (Some x.id)) e) id s.instances s.next_instance
        follows e id i hit is = record {
          is_kept = kept;
          given = subst (λ n. n < s.next_instance) id_is ((facts_of h).rows.given x there.0);
          key = key;
          asks = ap key_in (current e i (same_number e.number c.number hit)) ∙ asks;
          same_key = λ y j y_is. ap (λ (z : Instance). z.key) (the_one instance_id s.instances y x (facts_of h).rows.differ j there.0 (y_is ∙ sym id_is)) ∙ there.1;
        }
          where
            id_is : x.id ≡ id
            id_is = cc

pub follow-sound : {b : Since} (c : Client) (d : Decision) (s : State) → is_passing d ≡ false → IsCurrent c s → Sound b s → Sound b (follow c d s)
unfolding follow
follow-sound c d s kept current h = each_so (key_in c.front) (λ none. h) (λ key asks. follow_row-sound c d key s kept asks current h)

pub relay-sound : {b : Since} (c : Client) (s : State) → Sound b s → Sound b (relay c s)
unfolding relay
relay-sound c s h = swept-sound _ (on_client-sound c.number (answering_with (reply_by Relay None)) s relayed-same h)

pub mark_row_of-sound : {b : Since} (key : Bytes) (s : State) → Sound b s → Sound b (mark_row_of key s)
unfolding mark_row_of
mark_row_of-sound key s h = each_of (row s key) h (λ x. mark_row-sound x.id s h)

pub enter_row-sound : {b : Since} (c : Client) (d : Decision) (s : State) → Sound b s → Sound b (enter_row c d s)
unfolding enter_row
enter_row-sound c d s h = when (is_for_memory d) h (each_of (key_in c.front) h (λ key. mark_row_of-sound (text_of key) _ (enter-sound (text_of key) false s h)))

pub decided_by-sound : {b : Since} (c : Client) (d : Decision) (s : State) → IsCurrent c s → Sound b s → Sound b (decided_by c d s)
unfolding decided_by
decided_by-sound c (Refuse status) s current h = refuse-sound c status s h
decided_by-sound c Pass s current h = ask_origin-sound c Pass s h
decided_by-sound c Fetch s current h = ask_origin-sound c Fetch s h
decided_by-sound c Validate s current h = ask_origin-sound c Validate s h
decided_by-sound c Relay s current h = relay-sound c s h
decided_by-sound c (Hit from to) s current h = follow-sound c (Hit from to) s refl current h
decided_by-sound c (Part from to) s current h = follow-sound c (Part from to) s refl current h
decided_by-sound c Head s current h = follow-sound c Head s refl current h
decided_by-sound c NotModified s current h = follow-sound c NotModified s refl current h
decided_by-sound c Unsatisfiable s current h = follow-sound c Unsatisfiable s refl current h

-- a row that comes into memory changes no client
same_when : (s : State) (t : Bool) (x y : State) → x.clients ≡ s.clients → y.clients ≡ s.clients → (elim t as (λ c. State) [ true ↦ x | false ↦ y ]).clients ≡ s.clients
same_when s true x y hx hy = hx
same_when s false x y hx hy = hy

same_each : {A : Type 0} (s : State) (o : Option A) (x : State) (y : A → State) → x.clients ≡ s.clients → ((a : A) → (y a).clients ≡ s.clients) → (elim o as (λ c. State) [ None ↦ x | Some a ↦ y a ]).clients ≡ s.clients
same_each s None x y hx hy = hx
same_each s (Some a) x y hx hy = hy a

with_room-clients : (s : State) → (with_room s).clients ≡ s.clients
unfolding with_room forget_row forget
with_room-clients s = same_when s (nat_lt (rows s) 1024) _ _ refl (same_each s (idle_row s) _ _ refl (λ x. refl))

enter-clients : (key : Bytes) (is_new : Bool) (s : State) → (enter key is_new s).clients ≡ s.clients
unfolding enter add_row
enter-clients key is_new s = same_each s (row s key) _ _ (same_each s (row_on_disk s key) _ _ refl (λ e. with_room-clients s)) (λ x. refl)

mark_row_of-clients : (key : Bytes) (s : State) → (mark_row_of key s).clients ≡ s.clients
unfolding mark_row_of mark_row on_instance
mark_row_of-clients key s = same_each s (row s key) _ _ refl (λ x. refl)

enter_row-clients : (c : Client) (d : Decision) (s : State) → (enter_row c d s).clients ≡ s.clients
unfolding enter_row
enter_row-clients c d s =
    same_when s (is_for_memory d) _ _ refl (same_each s (key_in c.front) _ _ refl (λ key. mark_row_of-clients (text_of key) (enter (text_of key) false s) ∙ enter-clients (text_of key) false s))

pub decided-sound : {b : Since} (c : Client) (d : Decision) (s : State) → IsIn c s.clients → Sound b s → Sound b (decided c d s)
unfolding decided
decided-sound c d s there h =
    decided_by-sound c d _
    (λ e i is. ap (λ (x : Client). x.front) (one_of client_number s.clients e c (facts_of h).callers.rise (subst (λ cs. IsIn e cs) (enter_row-clients c d s) i) there is))
    (enter_row-sound c d s h)

-- ---- replies

pub begin_replies-sound : {b : Since} (s : State) → Sound b s → Sound b (begin_replies s)
unfolding begin_replies
begin_replies-sound {b} s h = swept-sound _ (forsake-sound (is_outrun s) _ (sound (clients_mapped b s (begun_at_end s) (begun_at_end-same s) (facts_of h))))

use_chunks-sound : {b : Since} (more id i : ℕ) (s : State) → Sound b s → Sound b (use_chunks more id i s)
unfolding use_chunks
use_chunks-sound zero id i s h = h
use_chunks-sound (suc more) id i s h = use_chunks-sound more id (i + 1) (use_chunk id i s) (use_chunk-sound id i s h)

use_from-sound : {b : Since} (n : ℕ) (x : Next) (s : State) → Sound b s → Sound b (use_from n x s)
unfolding use_from
use_from-sound n x s h = use_chunks-sound _ x.source.id (x.at / chunk_len) s h

pub use_said-sound : {b : Since} (n : ℕ) (c : Client) (s : State) → Sound b s → Sound b (use_said n c s)
unfolding use_said
use_said-sound n c s h = when (nat_lt 0 (of_body n c)) (each_of (next_of s c) h (λ x. use_from-sound (of_body n c) x s h)) h

pub end_reply-sound : {b : Since} (c : Client) (s : State) → Sound b s → Sound b (end_reply c s)
unfolding end_reply
end_reply-sound c s h = when c.closes (close_client-sound c.number false s h) (swept-sound _ (forsake-sound (is_of c.number) _ (on_client-sound c.number next_request s next_request-same h)))

pub end_said-sound : {b : Since} (c : Client) (s : State) → Sound b s → Sound b (end_said c s)
unfolding end_said
end_said-sound c s h = when (is_said c && not c.is_closing) (end_reply-sound c s h) h

pub close_finished-sound : {b : Since} (c : Client) (s : State) → Sound b s → Sound b (close_finished c s)
unfolding close_finished
close_finished-sound c s h = when (is_finished c) (close_client-sound c.number false s h) h

pub end_replies-sound : {b : Since} (s : State) → Sound b s → Sound b (end_replies s)
unfolding end_replies
end_replies-sound s h = each_client-sound close_finished (λ c t there. close_finished-sound c t) _ _ (each_client-sound end_said (λ c t there. end_said-sound c t) _ s h)

pub regained-sound : {b : Since} (s : State) → Sound b s → Sound b (regained s)
unfolding regained
regained-sound {b} s h = sound (clients_mapped b s (regained_by s) (regained_by-same s) (facts_of h))

-- ---- what followers ask for

pub fill_with-sound : {b : Since} (e : Exchange) (c : Client) (s : State) → e.number ≡ s.next_exchange → bound_of e ≡ None → Sound b s → Sound b (fill_with e c s)
unfolding fill_with
fill_with-sound e c s number none h = when (fits e.text) (begin_exchange-sound e s number none h) (on_client-sound c.number (λ x. record x { course = AskTooLong }) s (λ c. same_parts _ c refl refl refl) h)

pub fill_span-sound : {b : Since} (c : Client) (n : Next) (span : ℕ × ℕ) (s : State) → Sound b s → Sound b (fill_span c n span s)
unfolding fill_span
fill_span-sound c n span s h =
    by_front c.front h (λ status. h) (λ r. by_result r.key (λ key. fill_with-sound (filling_exchange s c r.head key n span) c s refl refl h) (λ fault. h))

pub fill_next-sound : {b : Since} (c : Client) (n : Next) (s : State) → Sound b s → Sound b (fill_next c n s)
unfolding fill_next
fill_next-sound c n s h = each_of (need_of s n) h (λ span. fill_span-sound c n span s h)

pub fill_for-sound : {b : Since} (c : Client) (s : State) → Sound b s → Sound b (fill_for c s)
unfolding fill_for
fill_for-sound c s h = when (is_trying c.course) (each_of (next_of s c) h (λ n. fill_next-sound c n s h)) h

pub fill-sound : {b : Since} (s : State) → Sound b s → Sound b (fill s)
unfolding fill
fill-sound s h = when s.is_stopped h (each_client-sound fill_for (λ c t there. fill_for-sound c t) _ s h)

pub give_up_asks-sound : {b : Since} (s : State) → Sound b s → Sound b (give_up_asks s)
unfolding give_up_asks
give_up_asks-sound {b} s h = sound (exchanges_filtered b s (λ e. not (is_useless_ask s e)) (facts_of h))

-- ---- what is heard and asked

pub hear-sound : {b : Since} (n : ℕ) (bytes : Bytes) (s : State) → Sound b s → Sound b (hear n bytes s)
unfolding hear
hear-sound n bytes s h = end_replies-sound _ (on_client-sound n (heard_by bytes) s (heard_by-same bytes) h)

pub hang_up-sound : {b : Since} (n : ℕ) (s : State) → Sound b s → Sound b (hang_up n s)
unfolding hang_up
hang_up-sound n s h = when (is_writing s.owed n) (close_client-sound n false s h) (end_replies-sound _ (on_client-sound n (λ c. record c { has_hung_up = true }) s (λ c. same_parts _ c refl refl refl) h))

pub ask_body-sound : {b : Since} (e : Exchange) (n : ℕ) (s : State) → Sound b s → Sound b (ask_body e n s)
unfolding ask_body
ask_body-sound e n s h = on_client_of-sound e (asked_body n) _ (λ c. same_parts _ c refl refl refl) (on_exchange-sound e.number (λ x. record x { body_left = x.body_left - n }) s (λ x. record { number = refl; key = refl; aim = refl; place = refl; headed = refl; bound = refl }) h)

pub ask_next-sound : {b : Since} (e : Exchange) (n : ℕ) (s : State) → Sound b s → Sound b (ask_next e n s)
unfolding ask_next
ask_next-sound e n s h = when (is_outstanding e) (ask_body-sound e n s h) (on_exchange-sound e.number (asked_text n s.clock) s (λ x. record { number = refl; key = refl; aim = refl; place = refl; headed = refl; bound = refl }) h)

pub ask-sound : {b : Since} (k n : ℕ) (s : State) → Sound b s → Sound b (ask k n s)
unfolding ask
ask-sound k n s h = each_of (asking s k) h (λ e. ask_next-sound e n s h)
