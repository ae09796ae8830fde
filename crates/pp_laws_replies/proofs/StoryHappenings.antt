-- Each permitted happening keeps what was told to each client in order, and so does a lawful log.
use Rattle.std.proofs.Common.{◌≡◌, ◌⊎◌, refl, ℕ, zero, suc, ◌+◌, ◌-◌, ◌/◌, ◌<◌, ◌≤◌, nat_lt, Bool, true, false, not, ◌==◌, ◌&&◌, List, [], ◌∷◌, ◌++◌, map, find, length, drop, if◌then◌else◌, Option, Some, None, inl, inr, sym, subst, ap, ◌∙◌, append_assoc, append-nil, le_of_lt, le_refl, lt_of_le_of_lt, arith, take, min, nat_eq, ap₂, le_trans, zero-le, length-take}
use Rattle.std.specs.List.{starts_with}
use Rattle.std.proofs.Math.Nat.{min-le_left, min-le_right}
use Rattle.pp_text.specs.Bytes.{is_empty}
use Rattle.pp_conf.specs.Conf.{Settings}
use Rattle.pp_conf.specs.Words.{reading_of}
use Rattle.pp_world.specs.Files.{Files}
use Rattle.pp_world.specs.Log.{Log}
use Rattle.pp_world.specs.Streams.{heard_in, said_in, heard as heard_of, said as said_to}
use Rattle.pp_world.specs.declared.happening.Happening.TheVariants.{Woke, Waits, Clock, Opened, CanRead, CanWrite, Heard, HungUp, Said, Shut, Dialled, Undialled, Reached, Ended, Broke, Asked, Got, Dropped, NoneYet, Began, Did, Unread, Noted, Rooted, Listed, Listens, Configured, Printed, Stopped}
use Rattle.pp_world.specs.declared.happening.Happening.{Happening}
use Rattle.pp_world.specs.declared.note.Remark.TheVariants.{Taken, Cut, Kept, Gone, Forgotten, Evicted, Loaded}
use Rattle.pp_world.specs.declared.note.Decision.{Decision}
use Rattle.pp_world.specs.declared.note.Remark.{Remark}
use Rattle.pp_world.specs.declared.op.DiskOp.{DiskOp}
use Rattle.pp_law.specs.After.{new_client, new_conn, event, opened, owing, reached, paid, said, gone, take_decision, evicted, waits_for_row, refused_row, leave_memory, forgotten_by, noted, begun_op, ended_op, unread, shut, dialled, refused_dial, undialled, out, dropped, changed, after}
use Rattle.pp_law.specs.Asking.{asking, is_writing, hear, ask_body, ask_next, ask, hang_up, asked_text, asked_body, body_heard, left_to_ask, is_front, is_reading, is_read, read_limit, fits_heard, permits_asked, permits_heard}
use Rattle.pp_law.specs.Chunks.{chunk_len, is_chunk, use_chunk}
use Rattle.pp_law.specs.Closing.{close_client}
use Rattle.pp_law.specs.Connections.{client, conn, is_client, is_outstanding, may_ask_again, on_client, placing, Placement, is_for, on_client_of, on_exchange}
use Rattle.pp_law.specs.Due.{due_decision}
use Rattle.pp_law.specs.Deciding.{decided}
use Rattle.pp_law.specs.Hearing.{fronted, heard_by, what_counts}
use Rattle.pp_law.specs.Lawful.{Lawful, LawfulFrom}
use Rattle.pp_law.specs.Leaving.{Leaving, ForAnother, ForMemory, BeforeDecision, leaving_as}
use Rattle.pp_law.specs.Lists.{Bytes, is_some_with, is_this}
use Rattle.pp_law.specs.Opening.{woken, begun as opening_begun, with_settings, settings_in, are_texts, names_file, is_opening}
use Rattle.pp_law.specs.Permits.{is_permitted, IsPermitted, permits, permits_taken, permits_dial, is_new_number, may_open}
use Rattle.pp_law.specs.Served.{accepts}
use Rattle.pp_law.specs.Phases.{is_awaiting, due_victim, come_to, come_to_decide, deciding, ending, in_phase}
use Rattle.pp_law.specs.Replies.{said_by, use_chunks, use_from, use_said, of_body, end_replies, regained}
use Rattle.pp_law.specs.Requests.{Front, NoHeadYet, NoHead as NoFront, IsRequest, has_request}
use Rattle.pp_law.specs.Responses.{ended}
use Rattle.pp_law.specs.State.{State, Term, RowRefused, Client, Conn, Exchange, Instance, IsRooted, IsListed, IsListening, IsWoken, Handling, Evicting, Keeping, Deciding, Connecting, DecidingAgain, Owed, ReadOf, WriteTo, start}
use Rattle.pp_law.specs.Table.{forget, next_of}
use Rattle.pp_laws_replies.proofs.HeardPlaces.{place_heard, read}
use Rattle.pp_laws.specs.Numbers.{AreRising}
use Rattle.pp_laws.specs.Runs.{IsIn, after_all}
use Rattle.pp_laws.proofs.Callers.{said_by-same, heard_by-same}
use Rattle.pp_laws.proofs.Happenings.{after-sound}
use Rattle.pp_laws.proofs.Laws.{start-sound}
use Rattle.pp_laws.proofs.Lists.{in_filter, in_find, in_push, one_of, rise_filter, rise_push}
use Rattle.pp_laws.proofs.Sound.{Since, Sound, client_number}
use Rattle.pp_laws.proofs.Steps.{deciding-sound}
use Rattle.pp_laws.proofs.Tests.{below, first_holds, number_same, same_number, second_holds, same_bytes}
use Rattle.pp_laws.proofs.Tops.{come_to-top}
use Rattle.pp_laws_replies.specs.Replies.{before, taken as taken_of, taken_from, taken_in, RepliesInOrder}
use Rattle.pp_laws_replies.proofs.Cases.{by_pause, each_of, when}
use Rattle.pp_laws_replies.proofs.HasRows.{found as find_one}
use Rattle.pp_laws_replies.proofs.Quiet.{clients_changed_in, Quiet, Quietly, clients_changed, facts_of, old_row, quiet_same, quietly}
use Rattle.pp_laws_replies.proofs.QuietAsks.{close_client-quiet, end_exchange-quiet, fill-quiet, lose_attempt-quiet, on_client-quiet, on_conn-quiet, on_exchange-quiet, parts_same, placing-quiet, put_on-quiet}
use Rattle.pp_laws_replies.proofs.QuietHeads.{ended-quiet, got-quiet}
use Rattle.pp_laws_replies.proofs.QuietRows.{begin_in_opening-quiet, begin_in_turn-quiet, close_name-quiet, configured-quiet, drop_chunk-quiet, end_op-quiet, forget-quiet, load-quiet, lose_in_opening-quiet, note_gone-quiet, note_kept-quiet, opened_to-quiet}
use Rattle.pp_laws_replies.proofs.QuietTurns.{come_to-quiet, come_to_decide-quiet, deciding-quiet, in_phase-quiet, regained-quiet, rest_with-quiet, tick-quiet, touch-quiet, use_said-quiet}
use Rattle.pp_laws_replies.proofs.Stories.{Told, Now, undecided, waiting, chosen, begun, now_alike, Alike, SameRows, Story, OrderOf, Orderly, changed_orderly, decides_too, in_order, order_of, orderly, quiet_orderly}
use Rattle.pp_laws_replies.proofs.StoryBegins.{begin_replies-orderly}
use Rattle.pp_laws_replies.proofs.StoryDecided.{IsFree, decided-orderly}
use Rattle.pp_laws_replies.proofs.StoryEnds.{end_replies-orderly}
use Rattle.pp_laws_replies.proofs.StorySaid.{Steps, no_client, said_front, said_some, steps, story_said}
use Rattle.pp_laws_replies.proofs.Usable.{KeyFor, TakenFor, UsedRow, due_has, due_key, due_off, due_used, permitted_taken, taken_for}

-- ---- what says nothing

event-quiet : {o : State} (s : State) → Quietly o s → Quietly o (event s)
unfolding event
event-quiet s h = regained-quiet _ (in_phase-quiet Handling s h)

owing-quiet : {o : State} (owed : Owed) (n : ℕ) (s : State) → Quietly o s → Quietly o (owing owed n s)
unfolding owing
owing-quiet owed n s h = quietly (facts_of (touch-quiet n s h))

reached-quiet : {o : State} (n : ℕ) (s : State) → Quietly o s → Quietly o (reached n s)
unfolding reached
reached-quiet n s h = touch-quiet n _ (on_conn-quiet n (λ k. record k { is_reached = true }) s h)

paid-quiet : {o : State} (s : State) → Quietly o s → Quietly o (paid s)
unfolding paid
paid-quiet s h = regained-quiet _ (quietly (facts_of h))

evicted-quiet : {o : State} (s : State) → Quietly o s → Quietly o (evicted s)
unfolding evicted
evicted-quiet s h = each_of (due_victim s) h (λ place. drop_chunk-quiet place.0 place.1 s h)

refused_row-quiet : {o : State} (x : Instance) (s : State) → Quietly o s → Quietly o (refused_row x s)
unfolding refused_row
refused_row-quiet {o} x s h =
    quietly (clients_changed o (forget x.id s) (waits_for_row x.id) (λ c. record c { course = RowRefused }) (λ c is. parts_same _ c refl refl refl refl refl refl refl refl refl) (facts_of (forget-quiet x.id s h)))

leave_memory-quiet : {o : State} (how : Leaving) (s : State) → Quietly o s → Quietly o (leave_memory how s)
unfolding leave_memory
leave_memory-quiet ForAnother s h = quietly (facts_of (come_to-quiet Evicting s h))
leave_memory-quiet (ForMemory x) s h = refused_row-quiet x _ (come_to-quiet Evicting s h)
leave_memory-quiet (BeforeDecision x) s h = quietly (facts_of (forget-quiet x.id _ (come_to_decide-quiet s h)))

forgotten_by-quiet : {o : State} (key : Bytes) (s : State) → Quietly o s → Quietly o (forgotten_by key s)
unfolding forgotten_by
forgotten_by-quiet key s h = each_of (leaving_as s key) h (λ how. leave_memory-quiet how s h)

begun_op-quiet : {o : State} (op : DiskOp) (s : State) → Quietly o s → Quietly o (begun_op op s)
unfolding begun_op
begun_op-quiet op s h = when (is_opening s) (begin_in_opening-quiet op s h) (begin_in_turn-quiet op _ (come_to-quiet Keeping s h))

ended_op-quiet : {o : State} (op : DiskOp) (ok : Bool) (s : State) → Quietly o s → Quietly o (ended_op op ok s)
unfolding ended_op
ended_op-quiet op true s h = end_op-quiet op true s h
ended_op-quiet op false s h = lose_in_opening-quiet s.agenda.name _ (end_op-quiet op false s h)

unread-quiet : {o : State} (name : Bytes) (s : State) → Quietly o s → Quietly o (unread name s)
unfolding unread
unread-quiet name s h = paid-quiet _ (lose_in_opening-quiet name _ (close_name-quiet name s h))

refused_dial-quiet : {o : State} (e : Exchange) (s : State) → Quietly o s → Quietly o (refused_dial e s)
unfolding refused_dial
refused_dial-quiet e s h = when (may_ask_again s e.number) h (fill-quiet _ (end_exchange-quiet e.number s h))

undialled-quiet : {o : State} (p : Placement) → Quietly o p.state → Quietly o (undialled p)
unfolding undialled
undialled-quiet p h = by_pause p.pause h (λ k e. h) (λ e. refused_dial-quiet e _ (lose_attempt-quiet e _ (quietly (facts_of h))))

out-quiet : {o : State} (n : ℕ) (s : State) → Quietly o s → Quietly o (out n s)
unfolding out
out-quiet n s h = quietly (facts_of h)

dropped-quiet : {o : State} (n : ℕ) (s : State) → Quietly o s → Quietly o (dropped n s)
unfolding dropped
dropped-quiet n s h = each_of (conn s n) h (λ k. when k.is_closing (out-quiet n s h) (out-quiet n _ (placing-quiet s h)))

dialled-quiet : {o : State} (n : ℕ) (host : Bytes) (port : ℕ) (s : State) → s.top ≤ n → o.top ≤ s.top → Quietly o s → Quietly o (dialled n host port (placing s))
unfolding dialled
dialled-quiet {o} n host port s le more h = by_pause (placing s).pause p (λ k e. p) (λ e. put_on-quiet e.number n _ (raised e))
  where
    p : Quietly o (placing s).state
    p = placing-quiet s h

    raised : (e : Exchange) → Quietly o (record (placing s).state { conns = (placing s).state.conns ++ new_conn n host port (placing s).state.clock ∷ []; top = n })
    raised e = let f = facts_of p in quietly (record { numbers = f.numbers; clients_from = f.clients_from; rows_from = f.rows_from; next = f.next; top = omega arith })

-- what is asked of a request's body was heard, and is of that body
abbrev IsThere : ℕ → Client → Type 0
IsThere n c = (n ≤ length c.heard) × (n ≤ c.body_left)

asked_quiet : (n : ℕ) (c : Client) → IsThere n c → Quiet (asked_body n c) c
asked_quiet n c there = record { number = refl; index = refl; front = refl; stage = refl; interim = refl; closes = refl; reads = read (asked_body n c) c n there.1 refl refl (none_more c.skip n (length c.heard) there.0) }
  where
    none_more : (s m l : ℕ) → m ≤ l → s ≡ s + (m - l)
    none_more s m l e = omega arith

ask_body-quiet : {o : State} (e : Exchange) (n : ℕ) (s : State) → ((c : Client) → IsIn c s.clients → is_for e c ≡ true → IsThere n c) → Quietly o s → Quietly o (ask_body e n s)
unfolding ask_body on_client_of on_exchange
ask_body-quiet {o} e n s short h =
    quietly (clients_changed_in o (on_exchange e.number (λ x. record x { body_left = x.body_left - n }) s) (is_for e) (asked_body n) (λ c. refl) (λ c i hit. asked_quiet n c (short c i hit)) (facts_of (on_exchange-quiet e.number (λ (x : Exchange). record x { body_left = x.body_left - n }) s h)))

ask-quiet : {o : State} (k n : ℕ) (s : State) → ((e : Exchange) → asking s k ≡ Some e → is_outstanding e ≡ true → (c : Client) → IsIn c s.clients → is_for e c ≡ true → IsThere n c) → Quietly o s → Quietly o (ask k n s)
unfolding ask ask_next
ask-quiet {o} k n s short h = by (asking s k) refl
  where
    at : (e : Exchange) (t : Bool) → asking s k ≡ Some e → is_outstanding e ≡ t → Quietly o (elim t as (λ x. State) [ false ↦ on_exchange e.number (asked_text n s.clock) s | true ↦ ask_body e n s ])
    at e false found is = on_exchange-quiet e.number (asked_text n s.clock) s h
    at e true found is = ask_body-quiet e n s (short e found is) h

    by : (found : Option Exchange) → asking s k ≡ found → Quietly o (elim found as (λ x. State) [ None ↦ s | Some e ↦ ask_next e n s ])
    by None is = h
    by (Some e) is = at e (is_outstanding e) is refl

asked_by : (s : State) (k : ℕ) (bytes : Bytes) (room : Option ℕ) → (elim room as (λ c. Bool) [ Some who ↦ false | None ↦ permits_asked s k bytes ]) ≡ true → permits_asked s k bytes ≡ true
asked_by s k bytes (Some who) is = absurd (cc is)
asked_by s k bytes None is = is

asked_permitted : (s : State) (k : ℕ) (bytes : Bytes) → IsPermitted s (Asked k bytes) → permits_asked s k bytes ≡ true
unfolding is_permitted permits
asked_permitted s k bytes is = asked_by s k bytes s.made_room_for is

-- it is a front of what is left
asked_front : (s : State) (k : ℕ) (bytes : Bytes) (e : Exchange) → IsPermitted s (Asked k bytes) → asking s k ≡ Some e → bytes ≡ take (length bytes) (left_to_ask s e)
asked_front s k bytes e is found =
    let some : is_some_with (λ x. is_front bytes (left_to_ask s x)) (asking s k) ≡ true = second_holds (is_writing s.owed k) (is_some_with (λ x. is_front bytes (left_to_ask s x)) (asking s k)) (asked_permitted s k bytes is) in
    let front : is_front bytes (left_to_ask s e) ≡ true = subst (λ o. is_some_with (λ x. is_front bytes (left_to_ask s x)) o ≡ true) found some in
    same_bytes bytes (take (length bytes) (left_to_ask s e)) (first_holds (starts_with nat_eq (left_to_ask s e) bytes) (not (is_empty (left_to_ask s e))) front)

same_asker : (s : State) (e : Exchange) (c d : Client) → AreRising (map client_number s.clients) → IsIn c s.clients → IsIn d s.clients → is_for e c ≡ true → is_for e d ≡ true → c ≡ d
same_asker s e c d rise i j one two = by e.asker one two
  where
    by : (asker : Option ℕ) → is_this c.number asker ≡ true → is_this d.number asker ≡ true → c ≡ d
    by None first second = absurd (cc first)
    by (Some m) first second = one_of client_number s.clients c d rise i j (sym (same_number m c.number first) ∙ same_number m d.number second)

asked_short : (s : State) (k : ℕ) (bytes : Bytes) → IsPermitted s (Asked k bytes) → AreRising (map client_number s.clients) → (e : Exchange) → asking s k ≡ Some e → is_outstanding e ≡ true → (c : Client) → IsIn c s.clients → is_for e c ≡ true
    → IsThere (length bytes) c
asked_short s k bytes is rise e found out c i hit = at (find (is_for e) s.clients) refl body
  where
    body : bytes ≡ take (length bytes) (body_heard s e)
    body = subst (λ t. bytes ≡ take (length bytes) (elim t as (λ x. Bytes) [ false ↦ drop e.asked e.text | true ↦ body_heard s e ])) out (asked_front s k bytes e is found)

    front : (xs ys : Bytes) → xs ≡ take (length xs) ys → length xs ≤ length ys
    front xs ys eq = subst (λ m. m ≤ length ys) (sym (ap length eq ∙ length-take (length xs) ys)) (min-le_right (length xs) (length ys))

    within : (n : ℕ) (xs : Bytes) → length (take n xs) ≤ length xs
    within n xs = subst (λ m. m ≤ length xs) (sym (length-take n xs)) (min-le_right n (length xs))

    of_body : (n : ℕ) (xs : Bytes) → length (take n xs) ≤ n
    of_body n xs = subst (λ m. m ≤ n) (sym (length-take n xs)) (min-le_left n (length xs))

    there_by : (d : Client) (m : ℕ) → m ≤ d.body_left → bytes ≡ take (length bytes) (take m d.heard) → IsThere (length bytes) d
    there_by d m le eq = (le_trans (front bytes (take m d.heard) eq) (within m d.heard), le_trans (front bytes (take m d.heard) eq) (le_trans (of_body m d.heard) le))

    at : (o : Option Client) → find (is_for e) s.clients ≡ o → bytes ≡ take (length bytes) (elim o as (λ x. Bytes) [ None ↦ [] | Some d ↦ take (min e.body_left d.body_left) d.heard ]) → IsThere (length bytes) c
    at None none eq = (le_trans (front bytes [] eq) zero-le, le_trans (front bytes [] eq) zero-le)
    at (Some d) some eq =
        let there = in_find (is_for e) d s.clients some in
        subst (λ (x : Client). IsThere (length bytes) x) (same_asker s e d c rise there.0 i there.1 hit) (there_by d (min e.body_left d.body_left) (min-le_right e.body_left d.body_left) eq)

-- what is read of an origin, and what is read or written elsewhere
loud_gone : {n : ℕ} {told : Told} (is_clean : Bool) (k : ℕ) (s : State) → Orderly n told s → Orderly n told (gone is_clean k s)
unfolding gone
loud_gone {n} {told} is_clean k s h = by (conn s k)
  where
    by : (o : Option Conn) → Orderly n told (elim o as (λ x. State) [ None ↦ s | Some j ↦ end_replies (ended is_clean j s) ])
    by None = h
    by (Some j) = end_replies-orderly _ (quiet_orderly s _ (ended-quiet is_clean j s (quiet_same s)) h)

-- ---- what is heard

heard_stage : (c : Client) (front : Front) → let d : Client = elim front as (λ x. Client) [ NoHeadYet ↦ fronted c | NoFront status ↦ c | IsRequest r ↦ c ] in (d.stage ≡ c.stage) × (d.interim_left ≡ c.interim_left) × (d.closes ≡ c.closes)
heard_stage c NoHeadYet = (refl, refl, refl)
heard_stage c (NoFront status) = (refl, refl, refl)
heard_stage c (IsRequest r) = (refl, refl, refl)

heard_front : (c : Client) (front : Front) → has_request front ≡ true → (elim front as (λ x. Client) [ NoHeadYet ↦ fronted c | NoFront status ↦ c | IsRequest r ↦ c ]).front ≡ c.front
heard_front c NoHeadYet has = absurd (cc has)
heard_front c (NoFront status) has = refl
heard_front c (IsRequest r) has = refl

rows_same : (s : State) → SameRows s.instances s.next_instance s.instances s.next_instance
rows_same s = record { from = λ x i. old_row x i refl refl; next_is = le_refl s.next_instance }

now_heard : (s : State) (bytes : Bytes) (c : Client) (decided : Option Decision) (last : Bytes) → Now s.instances s.next_instance decided c last → Now s.instances s.next_instance decided (heard_by bytes c) last
now_heard s bytes c decided last now = by now
  where
    more : Client
    more = record c { heard = c.heard ++ what_counts c.front (drop c.skip bytes); skip = c.skip - length bytes }

    alike : has_request c.front ≡ true → Alike (heard_by bytes c) c
    alike has = record { front = heard_front more c.front has; stage = (heard_stage more c.front).0; interim = (heard_stage more c.front).1; closes = (heard_stage more c.front).2 }

    by : Now s.instances s.next_instance decided c last → Now s.instances s.next_instance decided (heard_by bytes c) last
    by (undecided stage none is) = undecided ((heard_stage more c.front).0 ∙ stage) ((heard_stage more c.front).1 ∙ none) is
    by (waiting stage has is) = now_alike s.instances s.next_instance s.instances s.next_instance (heard_by bytes c) c decided last (rows_same s) (alike has) now
    by (chosen r stage isnt_on taken has is what) = now_alike s.instances s.next_instance s.instances s.next_instance (heard_by bytes c) c decided last (rows_same s) (alike has) now
    by (begun r stage is_on taken has head body is rest what) = now_alike s.instances s.next_instance s.instances s.next_instance (heard_by bytes c) c decided last (rows_same s) (alike has) now

heard_index : (bytes : Bytes) (c : Client) → (heard_by bytes c).index ≡ c.index
heard_index bytes c = by c.front
  where
    by : (front : Front) → (elim front as (λ x. Client) [
      | NoHeadYet ↦ fronted (record c { heard = c.heard ++ what_counts c.front (drop c.skip bytes); skip = c.skip - length bytes })
      | NoFront status ↦ record c { heard = c.heard ++ what_counts c.front (drop c.skip bytes); skip = c.skip - length bytes }
      | IsRequest r ↦ record c { heard = c.heard ++ what_counts c.front (drop c.skip bytes); skip = c.skip - length bytes }
    ]).index ≡ c.index
    by NoHeadYet = refl
    by (NoFront status) = refl
    by (IsRequest r) = refl

story_heard : {told : Told} (bytes : Bytes) (s : State) (c : Client) → Story s.instances s.next_instance told c → Story s.instances s.next_instance (record told { heard = told.heard ++ bytes }) (heard_by bytes c)
story_heard {told} bytes s c story = record {
  requests = story.requests;
  count = story.count ∙ sym (heard_index bytes c);
  replies = story.replies;
  each = story.each;
  last = story.last;
  all = story.all;
  place = place_heard told.heard story.requests bytes c story.place;
  now = subst (λ i. Now s.instances s.next_instance (told.decided i) (heard_by bytes c) story.last) (sym (heard_index bytes c)) (now_heard s bytes c (told.decided c.index) story.last story.now);
}

heard_nothing : {n : ℕ} {told : Told} (s : State) → Orderly n told s → Orderly n (record told { heard = told.heard ++ [] }) s
heard_nothing {n} {told} s h = subst (λ l. Orderly n (record told { heard = l }) s) (sym (append-nil told.heard)) h

said_nothing : {n : ℕ} {told : Told} (s : State) → Orderly n told s → Orderly n (record told { said = told.said ++ [] }) s
said_nothing {n} {told} s h = subst (λ l. Orderly n (record told { said = l }) s) (sym (append-nil told.said)) h

heard_here : {n : ℕ} {told : Told} (m : ℕ) (bytes : Bytes) (x : Client) (s : State) → IsIn x s.clients → x.number ≡ m → (t : Bool) → (m == n) ≡ t → Orderly n told s
    → Orderly n (record told { heard = told.heard ++ (if t then bytes else []) }) (on_client m (heard_by bytes) s)
unfolding on_client
heard_here {n} {told} m bytes x s there number false isnt h =
    heard_nothing (on_client m (heard_by bytes) s)
    (changed_orderly told s (is_client m) (heard_by bytes) (λ c. (heard_by-same bytes c).number)
    (λ c i hit is story.
    let both : true ≡ false = sym (number_same n) ∙ ap (λ k. k == n) (sym is ∙ same_number c.number m hit) ∙ isnt in
    absurd (cc both))
    (λ c i off is story. story) (order_of h).absent (order_of h).sofar h)
heard_here {n} {told} m bytes x s there number true is_n h =
    changed_orderly (record told { heard = told.heard ++ bytes }) s (is_client m) (heard_by bytes) (λ c. (heard_by-same bytes c).number)
    (λ c i hit is story. story_heard bytes s c story)
    (λ c i off is story.
    let both : true ≡ false = sym (number_same m) ∙ ap (λ k. k == m) (same_number m n is_n ∙ sym is) ∙ off in
    absurd (cc both))
    (λ lt. let le : x.number ≤ s.top = (order_of h).given x there in let eq : x.number ≡ n = number ∙ same_number m n is_n in absurd (omega arith))
    (in_order (record told { heard = told.heard ++ bytes }) (heard_by bytes x) (story_heard bytes s x ((order_of h).present x there (number ∙ same_number m n is_n))))
    h

heard_by_room : (s : State) (m : ℕ) (bytes : Bytes) (room : Option ℕ) → (elim room as (λ c. Bool) [ Some who ↦ false | None ↦ permits_heard s m bytes ]) ≡ true → permits_heard s m bytes ≡ true
heard_by_room s m bytes (Some who) is = absurd (cc is)
heard_by_room s m bytes None is = is

heard_permitted : (s : State) (m : ℕ) (bytes : Bytes) → IsPermitted s (Heard m bytes) → permits_heard s m bytes ≡ true
unfolding is_permitted permits
heard_permitted s m bytes is = heard_by_room s m bytes s.made_room_for is

third_holds : (a b c : Bool) → (a && b && c) ≡ true → c ≡ true
third_holds true true c is = is
third_holds true false c is = absurd (cc is)
third_holds false b c is = absurd (cc is)

hear-orderly : {n : ℕ} {told : Told} (m : ℕ) (bytes : Bytes) (s : State) → IsPermitted s (Heard m bytes) → Orderly n told s → Orderly n (record told { heard = told.heard ++ (if m == n then bytes else []) }) (hear m bytes s)
unfolding hear
hear-orderly {n} {told} m bytes s is h = end_replies-orderly (on_client m (heard_by bytes) s) (by (client s m) refl)
  where
    some : is_some_with (fits_heard bytes) (client s m) ≡ true
    some = third_holds (is_reading s.owed m) (is_read read_limit bytes) (is_some_with (fits_heard bytes) (client s m)) (heard_permitted s m bytes is)

    by : (o : Option Client) → client s m ≡ o → Orderly n (record told { heard = told.heard ++ (if m == n then bytes else []) }) (on_client m (heard_by bytes) s)
    by None none = let both : false ≡ true = sym (ap (is_some_with (fits_heard bytes)) none) ∙ some in absurd (cc both)
    by (Some x) found = let there = in_find (is_client m) x s.clients found in heard_here m bytes x s there.0 (same_number x.number m there.1) (m == n) refl h

hang_up-orderly : {n : ℕ} {told : Told} (m : ℕ) (s : State) → Orderly n told s → Orderly n told (hang_up m s)
unfolding hang_up
hang_up-orderly {n} {told} m s h = by (is_writing s.owed m)
  where
    left : State
    left = on_client m (λ c. record c { has_hung_up = true }) s

    by : (t : Bool) → Orderly n told (elim t as (λ x. State) [ true ↦ close_client m false s | false ↦ end_replies left ])
    by true = quiet_orderly s _ (close_client-quiet m false s (quiet_same s)) h
    by false = end_replies-orderly left (quiet_orderly s left (on_client-quiet m (λ c. record c { has_hung_up = true }) s (λ c. parts_same _ c refl refl refl refl refl refl refl refl refl) (quiet_same s)) h)

-- ---- the end of a turn

ending-orderly : {n : ℕ} {told : Told} (s : State) → Orderly n told s → Orderly n told (ending s)
unfolding ending
ending-orderly s h = begin_replies-orderly _ (quiet_orderly s _ (come_to-quiet DecidingAgain s (quiet_same s)) h)

-- ---- clients come and go

opened-orderly : {n : ℕ} {told : Told} (m : ℕ) (s : State) → s.top < m → Orderly n told s → Orderly n told (opened m s)
unfolding opened
opened-orderly {n} {told} m s above h = orderly (record {
  rise = rise_push client_number s.clients (new_client m s.clock) o.rise (λ c i. lt_of_le_of_lt (o.given c i) above);
  given = λ c i. given_by c (in_push c s.clients (new_client m s.clock) i);
  present = λ c i is. present_by c (in_push c s.clients (new_client m s.clock) i) is;
  absent = λ lt. o.absent (omega arith);
  sofar = o.sofar;
})
  where
    o : OrderOf n told s
    o = order_of h

    zero_less : (k : ℕ) → 0 ≡ 0 - k
    zero_less k = omega arith

    given_by : (c : Client) → IsIn c s.clients ⊎ (c ≡ new_client m s.clock) → c.number ≤ m
    given_by c (inl i) = let le : c.number ≤ s.top = o.given c i in omega arith
    given_by c (inr eq) = subst (λ k. k ≤ m) (sym (ap client_number eq)) (le_refl m)

    present_by : (c : Client) → IsIn c s.clients ⊎ (c ≡ new_client m s.clock) → c.number ≡ n → Story s.instances s.next_instance told c
    present_by c (inl i) is = o.present c i is
    present_by c (inr eq) is = let none = o.absent (subst (λ k. s.top < k) (sym (ap client_number eq) ∙ is) above) in subst (λ (x : Client). Story s.instances s.next_instance told x) (sym eq) (record {
      requests = [];
      count = refl;
      replies = [];
      each = tt;
      last = [];
      all = none.1;
      place = record { at = 0; rest_is = sym (ap (drop 0) none.0); skip_is = zero_less (length told.heard); current = inl (refl, tt); end_is = λ off. refl; none = λ none. refl; nowhere = λ on. absurd (cc on) };
      now = undecided refl refl refl;
    })

shut-orderly : {n : ℕ} {told : Told} (m : ℕ) (s : State) → Orderly n told s → Orderly n told (shut m s)
unfolding shut
shut-orderly {n} {told} m s h = orderly (record {
  rise = rise_filter client_number (λ c. not (is_client m c)) t.clients o.rise;
  given = λ c i. o.given c (in_filter (λ d. not (is_client m d)) c t.clients i).0;
  present = λ c i is. o.present c (in_filter (λ d. not (is_client m d)) c t.clients i).0 is;
  absent = o.absent;
  sofar = o.sofar;
})
  where
    t : State
    t = close_client m false s

    o : OrderOf n told t
    o = order_of (quiet_orderly s t (close_client-quiet m false s (quiet_same s)) h)

-- nobody is there
nobody : {n : ℕ} {told : Told} (s t : State) → t.clients ≡ [] → t.top ≡ s.top → Orderly n told s → Orderly n told t
nobody {n} {told} s t none top h = orderly (record {
  rise = subst (λ cs. AreRising (map client_number cs)) (sym none) tt;
  given = λ c i. absurd (subst (λ cs. IsIn c cs) none i);
  present = λ c i is. absurd (subst (λ cs. IsIn c cs) none i);
  absent = λ lt. (order_of h).absent (subst (λ k. k < n) top lt);
  sofar = (order_of h).sofar;
})

opening_top : (s : State) → ((opening_begun s).clients ≡ s.clients) × ((opening_begun s).top ≡ s.top)
unfolding opening_begun with_settings
opening_top s = by (are_texts s.term) (names_file s.term)
  where
    by_settings : (o : Option Settings) → ((with_settings o s).clients ≡ s.clients) × ((with_settings o s).top ≡ s.top)
    by_settings None = (refl, refl)
    by_settings (Some c) = (refl, refl)

    by : (a b : Bool) → let t : State = elim a as (λ x. State) [ false ↦ with_settings None s | true ↦ elim b as (λ x. State) [ true ↦ record s { phase = IsWoken } | false ↦ with_settings (settings_in (reading_of s.term.words None)) s ] ] in
        (t.clients ≡ s.clients) × (t.top ≡ s.top)
    by false b = by_settings None
    by true true = (refl, refl)
    by true false = by_settings (settings_in (reading_of s.term.words None))

woken-orderly : {n : ℕ} {told : Told} (image : Files) (s : State) → Orderly n told s → Orderly n told (woken image s)
unfolding woken
woken-orderly image s h = nobody s (woken image s) (opening_top _).0 (opening_top _).1 h

-- ---- what is said

same_when : (s : State) (t : Bool) (x y : State) → x.clients ≡ s.clients → y.clients ≡ s.clients → (elim t as (λ c. State) [ true ↦ x | false ↦ y ]).clients ≡ s.clients
same_when s true x y hx hy = hx
same_when s false x y hx hy = hy

same_each : {A : Type 0} (s : State) (o : Option A) (x : State) (y : A → State) → x.clients ≡ s.clients → ((a : A) → (y a).clients ≡ s.clients) → (elim o as (λ c. State) [ None ↦ x | Some a ↦ y a ]).clients ≡ s.clients
same_each s None x y hx hy = hx
same_each s (Some a) x y hx hy = hy a

use_chunk-clients : (id i : ℕ) (s : State) → (use_chunk id i s).clients ≡ s.clients
unfolding use_chunk
use_chunk-clients id i s = same_each s (find (is_chunk id i) s.chunks) s _ refl (λ c. refl)

use_chunks-clients : (more id i : ℕ) (s : State) → (use_chunks more id i s).clients ≡ s.clients
unfolding use_chunks
use_chunks-clients zero id i s = refl
use_chunks-clients (suc more) id i s = use_chunks-clients more id (i + 1) (use_chunk id i s) ∙ use_chunk-clients id i s

use_said-clients : (m : ℕ) (c : Client) (s : State) → (use_said m c s).clients ≡ s.clients
unfolding use_said use_from
use_said-clients m c s = same_when s (nat_lt 0 (of_body m c)) _ s (same_each s (next_of s c) s _ refl (λ x. use_chunks-clients _ x.source.id (x.at / chunk_len) s)) refl

said_here : {n : ℕ} {told : Told} (m : ℕ) (bytes : Bytes) (x : Client) (u : State) → IsIn x u.clients → x.number ≡ m → ((e : Client) → IsIn e u.clients → e.number ≡ m → e ≡ x) → Steps x (said_by (length bytes) x) bytes
    → (t : Bool) → (m == n) ≡ t → Orderly n told u → Orderly n (record told { said = told.said ++ (if t then bytes else []) }) (on_client m (said_by (length bytes)) u)
unfolding on_client
said_here {n} {told} m bytes x u there number one step false isnt h =
    said_nothing (on_client m (said_by (length bytes)) u)
    (changed_orderly told u (is_client m) (said_by (length bytes)) (λ c. (said_by-same (length bytes) c).number)
    (λ c i hit is story.
    let both : true ≡ false = sym (number_same n) ∙ ap (λ k. k == n) (sym is ∙ same_number c.number m hit) ∙ isnt in
    absurd (cc both))
    (λ c i off is story. story) (order_of h).absent (order_of h).sofar h)
said_here {n} {told} m bytes x u there number one step true is_n h =
    changed_orderly (record told { said = told.said ++ bytes }) u (is_client m) (said_by (length bytes)) (λ c. (said_by-same (length bytes) c).number)
    (λ c i hit is story. goes c (one c i (same_number c.number m hit)) story)
    (λ c i off is story.
    let both : true ≡ false = sym (number_same m) ∙ ap (λ k. k == m) (same_number m n is_n ∙ sym is) ∙ off in
    absurd (cc both))
    (λ lt. let le : x.number ≤ u.top = (order_of h).given x there in let eq : x.number ≡ n = number ∙ same_number m n is_n in absurd (omega arith))
    (in_order (record told { said = told.said ++ bytes }) (said_by (length bytes) x) (story_said told x bytes step ((order_of h).present x there (number ∙ same_number m n is_n))))
    h
  where
    goes : (c : Client) → c ≡ x → Story u.instances u.next_instance told c → Story u.instances u.next_instance (record told { said = told.said ++ bytes }) (said_by (length bytes) c)
    goes c eq story = subst (λ (y : Client). Story u.instances u.next_instance (record told { said = told.said ++ bytes }) (said_by (length bytes) y)) (sym eq) (story_said told x bytes step (subst (λ (y : Client). Story u.instances u.next_instance told y) eq story))

said-orderly : {n : ℕ} {told : Told} (m offered : ℕ) (bytes : Bytes) (s : State) → IsPermitted s (Said m offered bytes) → Orderly n told s → Orderly n (record told { said = told.said ++ (if m == n then bytes else []) }) (said m (length bytes) s)
unfolding said
said-orderly {n} {told} m offered bytes s is h = by (client s m) refl
  where
    nothing_said : client s m ≡ None → IsPermitted s (Said m offered bytes) → ⊥
    nothing_said none permitted = no_client s m offered bytes none permitted

    by : (o : Option Client) → client s m ≡ o → Orderly n (record told { said = told.said ++ (if m == n then bytes else []) }) (elim o as (λ x. State) [ None ↦ s | Some x ↦ end_replies (on_client m (said_by (length bytes)) (use_said (length bytes) x s)) ])
    by None none = absurd (nothing_said none is)
    by (Some x) found =
        let there = in_find (is_client m) x s.clients found in
        let u = use_said (length bytes) x s in
        let same : u.clients ≡ s.clients = use_said-clients (length bytes) x s in
        end_replies-orderly (on_client m (said_by (length bytes)) u)
        (said_here m bytes x u (subst (λ cs. IsIn x cs) (sym same) there.0) (same_number x.number m there.1)
        (λ e i number. one_of client_number s.clients e x (order_of h).rise (subst (λ cs. IsIn e cs) same i) there.0 (number ∙ sym (same_number x.number m there.1)))
        (steps s x bytes (said_front s m offered bytes x found is) (said_some s m offered bytes x found is)) (m == n) refl
        (quiet_orderly s u (use_said-quiet (length bytes) x s (quiet_same s)) h))

-- ---- what is decided

-- it is free to be decided
free_when : (s : State) (c : Client) (d : Decision) → due_decision s c ≡ Some d → IsFree c
free_when s c d due = record { has = due_has s c d due; off = due_off s c d due }

-- the phase is nothing to it
used_in : (s : State) (c : Client) (d : Decision) → UsedRow s c d → UsedRow (in_phase Deciding s) c d
used_in s c d used = record { request = used.request; asks = used.asks; key = used.key; names = used.names; row = used.row; known = used.known; ready = used.ready; made = used.made }

keyed_in : (s : State) (c : Client) (d : Decision) → KeyFor s c d → KeyFor (in_phase Deciding s) c d
keyed_in s c d k = record { request = k.request; asks = k.asks; key = k.key; names = k.names; made = k.made }

taken-orderly : {n : ℕ} {told : Told} {b : Since} (m i : ℕ) (d : Decision) (s : State) → permits_taken s m i d ≡ true → Sound b s → Orderly n told s → Orderly n (decides_too n m i d told) (take_decision m d (deciding s))
unfolding take_decision deciding
taken-orderly {n} {told} {b} m i d s is hs h = by (client (deciding s) m) refl
  where
    u : State
    u = come_to_decide s

    hu : Orderly n told (in_phase Deciding u)
    hu = quiet_orderly s _ (deciding-quiet s (quiet_same s)) h

    t : TakenFor u m i d
    t = taken_for s m i d is

    by : (o : Option Client) → client (in_phase Deciding u) m ≡ o
        → Orderly n (decides_too n m i d told) (elim o as (λ x. State) [ None ↦ in_phase Deciding u | Some c ↦ regained (record (decided c d (in_phase Deciding u)) { forgotten = []; made_room_for = None }) ])
    by None none = absurd (find_one (is_client m) t.one u.clients t.there (subst (λ k. (k == m) ≡ true) (sym t.number) (number_same m)) none)
    by (Some c) found =
        let there = in_find (is_client m) c u.clients found in
        let eq : c ≡ t.one = one_of client_number u.clients c t.one (order_of hu).rise there.0 t.there (same_number c.number m there.1 ∙ sym t.number) in
        let due : due_decision u c ≡ Some t.due = ap (due_decision u) eq ∙ t.is in
        quiet_orderly (decided c d (in_phase Deciding u)) _ (regained-quiet _ (quietly (facts_of (quiet_same (decided c d (in_phase Deciding u))))))
        (subst (λ k. Orderly n (decides_too n k i d told) (decided c d (in_phase Deciding u))) (same_number c.number m there.1)
        (subst (λ k. Orderly n (decides_too n c.number k d told) (decided c d (in_phase Deciding u))) (ap (λ (x : Client). x.index) eq ∙ t.index)
        (decided-orderly c d (in_phase Deciding u) there.0 (free_when u c t.due due)
        (λ isnt. keyed_in u c d (due_key u c d isnt (due ∙ ap (λ e. Some e) (t.is_it isnt))))
        (λ by_row. used_in u c d (due_used u c d by_row (due ∙ ap (λ e. Some e) (t.same by_row)))) (deciding-sound s hs) hu)))

-- ---- notes

-- this was decided too
abbrev notes_too : ℕ → Remark → Told → Told
notes_too n remark told = record told { decided = λ i. taken_in n i (Noted remark) (told.decided i) }

noted-orderly : {n : ℕ} {told : Told} {b : Since} (remark : Remark) (s : State) → IsPermitted s (Noted remark) → Sound b s → Orderly n told s → Orderly n (notes_too n remark told) (noted remark s)
unfolding noted
noted-orderly (Taken m i d) s is hs h = taken-orderly m i d s (permitted_taken s m i d is) hs h
noted-orderly (Cut m cause) s is hs h = quiet_orderly s _ (close_client-quiet m true _ (deciding-quiet s (quiet_same s))) h
noted-orderly (Kept key tag k extent) s is hs h = quiet_orderly s _ (note_kept-quiet key extent s (quiet_same s)) h
noted-orderly (Gone key) s is hs h = quiet_orderly s _ (note_gone-quiet key _ (come_to-quiet Keeping s (quiet_same s))) h
noted-orderly (Forgotten key) s is hs h = quiet_orderly s _ (forgotten_by-quiet key s (quiet_same s)) h
noted-orderly (Evicted key tag k i) s is hs h = quiet_orderly s _ (evicted-quiet _ (come_to-quiet Evicting s (quiet_same s))) h
noted-orderly (Loaded key tag k i) s is hs h = quiet_orderly s _ (load-quiet key i s (quiet_same s)) h

-- ---- what is permitted

opened_by : (s : State) (n : ℕ) (room : Option ℕ) → (elim room as (λ c. Bool) [ Some who ↦ false | None ↦ is_awaiting s && may_open s n ]) ≡ true → s.top < n
opened_by s n (Some who) is = absurd (cc is)
opened_by s n None is = below s.top n (first_holds (is_new_number s n) (accepts s) (second_holds (is_awaiting s) (may_open s n) is))

pub opened_above : (s : State) (n : ℕ) → IsPermitted s (Opened n) → s.top < n
unfolding is_permitted permits
opened_above s n is = opened_by s n s.made_room_for is

dialled_by : (s : State) (n : ℕ) (host : Bytes) (port : ℕ) (room : Option ℕ) → (elim room as (λ c. Bool) [ Some who ↦ false | None ↦ is_new_number s n && permits_dial s host port ]) ≡ true → s.top < n
dialled_by s n host port (Some who) is = absurd (cc is)
dialled_by s n host port None is = below s.top n (first_holds (is_new_number s n) (permits_dial s host port) is)

dialled_above : (s : State) (n : ℕ) (host : Bytes) (port : ℕ) → IsPermitted s (Dialled n host port) → s.top < n
unfolding is_permitted permits
dialled_above s n host port is = dialled_by s n host port s.made_room_for is

-- ---- all

-- this too was heard and said
abbrev more_told : Told → Bytes → Bytes → Told
more_told told more further = record { heard = told.heard ++ more; said = told.said ++ further; decided = told.decided }

-- and what this happening tells
abbrev told_by : ℕ → Happening → Told → Told
told_by n happening told = record { heard = told.heard ++ heard_in n happening; said = told.said ++ said_in n happening; decided = λ i. taken_in n i happening (told.decided i) }

abbrev told_in : ℕ → Log → Told → Told
told_in n log told = record { heard = told.heard ++ heard_of n log; said = told.said ++ said_to n log; decided = λ i. taken_from n i (told.decided i) log }

-- nothing is heard, and nothing said
untold : {n : ℕ} {told : Told} (s : State) → Orderly n told s → Orderly n (more_told told [] []) s
untold s h = said_nothing s (heard_nothing s h)

-- what leaves each reply as it is
quietly_on : {n : ℕ} {told : Told} (s t : State) → Quietly s t → Orderly n told s → Orderly n (more_told told [] []) t
quietly_on s t quiet h = untold t (quiet_orderly s t quiet h)

dialled_on : {n : ℕ} {told : Told} (m : ℕ) (host : Bytes) (port : ℕ) (s : State) → s.top < m → Orderly n told s → Orderly n (more_told told [] []) (dialled m host port (placing (come_to Connecting s)))
dialled_on m host port s above h =
    quietly_on s _ (dialled-quiet m host port (come_to Connecting s) (subst (λ k. k ≤ m) (sym (come_to-top Connecting s)) (le_of_lt above)) (facts_of (come_to-quiet Connecting s (quiet_same s))).top (come_to-quiet Connecting s (quiet_same s))) h

paid_on : {n : ℕ} {told : Told} (s : State) → Orderly n told s → Orderly n told (paid s)
paid_on s h = quiet_orderly s (paid s) (paid-quiet s (quiet_same s)) h

changed-orderly : {n : ℕ} {told : Told} {b : Since} (s : State) (happening : Happening) → IsPermitted s happening → Sound b s → Orderly n told s → Orderly n (told_by n happening told) (changed s happening)
unfolding changed
changed-orderly s (Woke image) is hs h = untold _ (woken-orderly image s h)
changed-orderly s (Waits w) is hs h =
    untold _ (quiet_orderly _ _ (rest_with-quiet w _ (quiet_same _)) (ending-orderly s h))
changed-orderly s (Clock seconds) is hs h = quietly_on s _ (event-quiet _ (tick-quiet seconds s (quiet_same s))) h
changed-orderly s (Opened m) is hs h = untold _ (quiet_orderly _ _ (event-quiet _ (quiet_same _)) (opened-orderly m s (opened_above s m is) h))
changed-orderly s (CanRead m) is hs h = quietly_on s _ (event-quiet _ (owing-quiet (ReadOf m) m s (quiet_same s))) h
changed-orderly s (CanWrite m) is hs h = quietly_on s _ (event-quiet _ (owing-quiet (WriteTo m) m s (quiet_same s))) h
changed-orderly s (Heard c bytes) is hs h = said_nothing _ (paid_on _ (hear-orderly c bytes s is h))
changed-orderly s (HungUp c) is hs h = untold _ (paid_on _ (hang_up-orderly c s h))
changed-orderly s (Said c offered bytes) is hs h = heard_nothing _ (paid_on _ (said-orderly c offered bytes s is h))
changed-orderly s (Shut c) is hs h = untold _ (shut-orderly c _ (quiet_orderly s _ (come_to-quiet Connecting s (quiet_same s)) h))
changed-orderly s (Dialled m host port) is hs h = dialled_on m host port s (dialled_above s m host port is) h
changed-orderly s (Undialled host port) is hs h = quietly_on s _ (undialled-quiet (placing (come_to Connecting s)) (placing-quiet _ (come_to-quiet Connecting s (quiet_same s)))) h
changed-orderly s (Reached k) is hs h = quietly_on s _ (event-quiet _ (reached-quiet k s (quiet_same s))) h
changed-orderly s (Ended k) is hs h = untold _ (paid_on _ (loud_gone true k s h))
changed-orderly s (Broke k) is hs h = untold _ (paid_on _ (loud_gone false k _ (quiet_orderly s _ (event-quiet s (quiet_same s)) h)))
changed-orderly s (Asked k bytes) is hs h = quietly_on s _ (paid-quiet _ (ask-quiet k (length bytes) s (asked_short s k bytes is (order_of h).rise) (quiet_same s))) h
changed-orderly s (Got k bytes) is hs h = untold _ (paid_on _ (end_replies-orderly _ (quiet_orderly s _ (got-quiet (length bytes) k bytes s (quiet_same s)) h)))
changed-orderly s (Dropped k) is hs h = quietly_on s _ (dropped-quiet k _ (come_to-quiet Connecting s (quiet_same s))) h
changed-orderly s (NoneYet m) is hs h = quietly_on s _ (paid-quiet s (quiet_same s)) h
changed-orderly s (Began op) is hs h = quietly_on s _ (begun_op-quiet op s (quiet_same s)) h
changed-orderly s (Did op ok) is hs h = quietly_on s _ (ended_op-quiet op ok s (quiet_same s)) h
changed-orderly s (Unread name) is hs h = quietly_on s _ (unread-quiet name s (quiet_same s)) h
changed-orderly s (Noted remark) is hs h = untold _ (noted-orderly remark s is hs h)
changed-orderly s (Rooted folder) is hs h = quietly_on s _ (opened_to-quiet IsRooted true s (quiet_same s)) h
changed-orderly s (Listed ok) is hs h = quietly_on s _ (opened_to-quiet IsListed ok s (quiet_same s)) h
changed-orderly s (Listens port ok) is hs h = quietly_on s _ (opened_to-quiet IsListening ok s (quiet_same s)) h
changed-orderly s (Configured file text) is hs h = quietly_on s _ (configured-quiet text s (quiet_same s)) h
changed-orderly s (Printed text) is hs h = untold s h
changed-orderly s Stopped is hs h = quietly_on s _ (event-quiet (record s { is_stopped = true }) (quietly (facts_of (quiet_same s)))) h

-- ---- along a log

all_orderly : {n : ℕ} {b : Since} (told : Told) (s : State) (log : Log) → b.excepts ≡ None → b.counts_loads ≡ false → LawfulFrom s log → Sound b s → Orderly n told s → Orderly n (told_in n log told) (after_all s log)
unfolding said_to heard_of
all_orderly told s [] none loads lawful hs h = untold s h
all_orderly {n} {b} told s (happening ∷ log) none loads lawful hs h =
    subst (λ t. Orderly n t (after_all (after s happening) log))
    (ap₂ told_of (append_assoc told.heard (heard_in n happening) (heard_of n log)) (append_assoc told.said (said_in n happening) (said_to n log)))
    (all_orderly {b = b} (told_by n happening told) (after s happening) log none loads lawful.1 (after-sound s happening none (λ counts. absurd (uncounted counts)) lawful.0 hs) (changed-orderly s happening lawful.0 hs h))
  where
    told_of : Bytes → Bytes → Told
    told_of more further = record { heard = more; said = further; decided = λ i. taken_from n i (taken_in n i happening (told.decided i)) log }

    uncounted : b.counts_loads ≡ true → ⊥
    uncounted counts = let both : false ≡ true = sym loads ∙ counts in cc both

abbrev nothing_told : Told
nothing_told = record { heard = []; said = []; decided = λ i. None }

start_orderly : (n : ℕ) (terms : List Term) → Orderly n nothing_told (start terms)
start_orderly n terms = orderly (record {
  rise = tt;
  given = λ c i. absurd i;
  present = λ c i. absurd i;
  absent = λ lt. (refl, refl);
  sofar = record { requests = []; are_heard = tt; replies = []; each = tt; next = NoHeadYet; last = []; front = before [] refl; next_heard = inl refl; all = refl };
})

-- whatever is loaded
from_start : Since
from_start = record { old = []; counts_loads = false; excepts = None }

-- what was told to a client, in the state behind a lawful log
pub orderly_at : (n : ℕ) (terms : List Term) (log : Log) → Lawful terms log → Orderly n (record { heard = heard_of n log; said = said_to n log; decided = taken_of n log }) (after_all (start terms) log)
unfolding from_start
orderly_at n terms log lawful = all_orderly {b = from_start} nothing_told (start terms) log refl refl lawful (start-sound from_start terms refl) (start_orderly n terms)

pub story_at : (n : ℕ) (terms : List Term) (log : Log) → Lawful terms log → (told : Told) × Orderly n told (after_all (start terms) log)
story_at n terms log lawful = (record { heard = heard_of n log; said = said_to n log; decided = taken_of n log }, orderly_at n terms log lawful)

pub replies_in_order : RepliesInOrder
replies_in_order terms log n lawful = (order_of (orderly_at n terms log lawful)).sofar
