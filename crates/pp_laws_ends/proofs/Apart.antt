-- No number is both a client's and a connection's: each new one is above all that were given.
use Rattle.std.proofs.Common.{◌≡◌, ◌⊎◌, refl, ℕ, zero, suc, ◌+◌, ◌<◌, ◌≤◌, Bool, true, false, not, ◌==◌, ◌&&◌, ◌||◌, List, [], ◌∷◌, ◌++◌, map, drop, length, Option, Some, None, Result, Ok, Err, inl, inr, sym, subst, ap, ◌∙◌, arith}
use Rattle.std.proofs.lemmas.List.{append-nil}
use Rattle.pp_conf.specs.Conf.{Settings}
use Rattle.pp_conf.specs.Words.{reading_of}
use Rattle.pp_framing.specs.Body.{Outcome, Done, Going, Bad}
use Rattle.pp_framing.specs.Framing.{rule_of}
use Rattle.pp_framing.specs.Rules.{body_of}
use Rattle.pp_framing.specs.declared.body.BodyRule.{BodyRule}
use Rattle.pp_framing.specs.declared.framing.ResponseFault.{ResponseFault}
use Rattle.pp_head.specs.Read.{Read, Whole, TooLong, Bad as NoHead, More}
use Rattle.pp_head.specs.Response.{Response, response_at}
use Rattle.pp_pipe.specs.Front.{is_interim}
use Rattle.pp_text.specs.Bytes.{is_empty}
use Rattle.pp_world.specs.Files.{Files}
use Rattle.pp_world.specs.Log.{Log}
use Rattle.pp_world.specs.declared.event.Wants.{Wants}
use Rattle.pp_world.specs.declared.happening.Happening.TheVariants.{Woke, Waits, Clock, Opened, CanRead, CanWrite, Heard, HungUp, Said, Shut, Dialled, Undialled, Reached, Ended, Broke, Asked, Got, Dropped, NoneYet, Began, Did, Unread, Noted, Rooted, Listed, Listens, Configured, Printed, Stopped}
use Rattle.pp_world.specs.declared.happening.Happening.{Happening}
use Rattle.pp_world.specs.declared.note.Decision.{Decision}
use Rattle.pp_world.specs.declared.note.Remark.TheVariants.{Taken, Cut, Kept, Gone, Forgotten, Evicted, Loaded}
use Rattle.pp_world.specs.declared.note.Remark.{Remark}
use Rattle.pp_world.specs.declared.op.DiskOp.{DiskOp}
use Rattle.pp_law.proofs.Prefixes.{front_from}
use Rattle.pp_law.specs.After.{waits_for_row, new_client, new_conn, event, opened, owing, reached, paid, said, gone, take_decision, evicted, refused_row, leave_memory, forgotten_by, noted, begun_op, ended_op, unread, shut, dialled, refused_dial, undialled, out, dropped, changed, after}
use Rattle.pp_law.specs.Chunks.{note_use}
use Rattle.pp_law.specs.Closing.{close_client, exchanges_of, leave_one, left_alone}
use Rattle.pp_law.specs.Connections.{client, conn, each_exchange, end_exchange, exchange, front_of_line, is_client, is_conn, may_ask_again, on_client, on_conn, on_exchange, placing, Placement, put_on, without_ask}
use Rattle.pp_law.specs.Deciding.{begin_exchange, add_exchange}
use Rattle.pp_law.specs.Closing.{forsake, leave}
use Rattle.pp_law.specs.Lawful.{Lawful}
use Rattle.pp_law.specs.Leaving.{Leaving, ForAnother, ForMemory, BeforeDecision, leaving_as}
use Rattle.pp_law.specs.Lists.{Bytes}
use Rattle.pp_law.specs.Opening.{are_texts, begun, configured, is_at, is_opening, names_file, opened_to, settings_in, stuck, with_settings, woken}
use Rattle.pp_law.specs.OwnHeads.{is_wrong_head, key_of, join, joined_one, join_bound, moved_on, note_own, note_sent}
use Rattle.pp_law.specs.Passing.{poured}
use Rattle.pp_law.specs.Permits.{is_new_number, is_permitted, IsPermitted, may_open, permits, permits_dial}
use Rattle.pp_law.specs.Phases.{phases, in_phase, is_awaiting, is_done, behind, next, come, come_to, come_to_decide, decides, deciding, due_victim, ending}
use Rattle.pp_law.specs.Replies.{said_by}
use Rattle.pp_law.specs.Responses.{asks_head, answer_with, end_if_empty, begin_answer, answer_for, bring_row, head_came, is_readable, Piece, is_early, with_unread, bad_head, bad_response, finish, head_piece, deliver, payload_of, body_piece_of, body_piece, next_piece, got}
use Rattle.pp_law.specs.Connections.{close_conn}
use Rattle.pp_law.specs.Stages.{bound_of}
use Rattle.pp_law.specs.State.{State, Term, start, RowRefused, Phase, Before, IsWoken, IsConfigured, IsRooted, IsListed, IsListening, IsStuck, Awaiting, Handling, Evicting, Keeping, Deciding, Following, Connecting, DecidingAgain, Owed, ReadOf, WriteTo, Joining, Answer, Bound, Client, Conn, Exchange, Instance}
use Rattle.pp_law.specs.Table.{forget, instance, kept_row, row}
use Rattle.pp_law.specs.Store.{load, load_from}
use Rattle.pp_law.specs.Turn.{rest_with}
use Rattle.pp_laws.specs.Runs.{state_after, IsIn}
use Rattle.pp_laws.proofs.Lists.{changed_at, in_filter, in_find, in_map, in_push}
use Rattle.pp_laws.proofs.Places.{placing-sound}
use Rattle.pp_laws.proofs.Sound.{Since, Sound, client_number, conn_number, facts_of as sound_facts}
use Rattle.pp_laws.proofs.Steps.{come_to-sound}
use Rattle.pp_laws.proofs.Tests.{below, first_holds, second_holds}
use Rattle.pp_laws.proofs.Tops.{come_to-top, placing-top}
use Rattle.pp_laws_pool.proofs.Along.{Steps, along}
use Rattle.pp_obeys.specs.Obeys.{Obeys}
use Rattle.pp_obeys.proofs.Obeying.{log-good}
use Rattle.pp_laws_turn.proofs.View.{View, Walk, Begins, Follows, Holds, IsHeard, SameAsk, facts_of, holds, is_late, view}
use Rattle.pp_laws_turn.proofs.Cases.{by_aim_of, by_outcome, by_pause, each_of, each_so, when}
use Rattle.pp_laws_turn.proofs.Clients.{ask-keeps, begin_replies-keeps, close_client-keeps, decided-keeps, end_replies-keeps, fill-keeps, give_up_asks-keeps, hang_up-keeps, hear-keeps, pour-keeps, regained-keeps, use_said-keeps}
use Rattle.pp_laws_turn.proofs.Closings.{close_conn-keeps}
use Rattle.pp_laws_turn.proofs.Disk.{begin_in_opening-keeps, begin_in_turn-keeps, close_name-keeps, end_op-keeps, lose_in_opening-keeps, note_gone-keeps, note_kept-keeps}
use Rattle.pp_laws_turn.proofs.Exchanges.{end_exchange-keeps, lose_attempt-keeps, on_client-keeps, on_conn-keeps, on_exchange-keeps, same_ask, same_conn}
use Rattle.pp_laws_turn.proofs.Happenings.{asked_placed, taken_bodied, taken_going, taken_so}
use Rattle.pp_laws_turn.proofs.Heads.{by_aim-keeps}
use Rattle.pp_laws_turn.proofs.Kept.{Turn}
use Rattle.pp_laws_turn.proofs.Lifts.{Stays, obeying, turn_at}
use Rattle.pp_laws_turn.proofs.Lined.{placing_puts}
use Rattle.pp_laws_turn.proofs.Pieces.{bad_head-keeps, bad_response-keeps, ended-keeps, finish-keeps}
use Rattle.pp_laws_turn.proofs.Rows.{drop_chunk-keeps, enter-keeps}
use Rattle.pp_laws_turn.proofs.Same.{said_by-same}
use Rattle.pp_laws_turn.proofs.Steps.{drop_unseen-keeps, rested-keeps, tick-keeps, touch-keeps}
use Rattle.pp_laws_ends.specs.Ends.{AreApart, NumbersAreApart}

-- ---- what changes

abbrev Apart : View → Type 0
Apart v = (c : Client) (k : Conn) → IsIn c v.clients → IsIn k v.conns → c.number ≡ k.number → ⊥

clients_apart : (f : Client → Client) → ((c : Client) → (f c).number ≡ c.number) → (v : View) → Apart v → Apart (record v { clients = map f v.clients })
clients_apart f number v h c k i j is = let r = in_map f c v.clients i in h r.was k r.there j (sym (number r.was) ∙ ap client_number (sym r.is) ∙ is)

conns_apart : (f : Conn → Conn) → ((k : Conn) → (f k).number ≡ k.number) → (v : View) → Apart v → Apart (record v { conns = map f v.conns })
conns_apart f number v h c k i j is = let r = in_map f k v.conns j in h c r.was i r.there (is ∙ ap conn_number r.is ∙ number r.was)

number_at : (p : Client → Bool) (f : Client → Client) → ((c : Client) → (f c).number ≡ c.number) → (c : Client) → (changed_at p f c).number ≡ c.number
number_at p f number c = by (p c)
  where
    by : (t : Bool) → (elim t as (λ x. Client) [ true ↦ f c | false ↦ c ]).number ≡ c.number
    by true = number c
    by false = refl

one_left : (e : Exchange) (s : State) → Apart (view s) → Apart (view (leave_one e s))
unfolding leave_one end_exchange on_exchange
one_left e s h = by (e.asked == 0)
  where
    by : (t : Bool) → Apart (view (elim t as (λ c. State) [ true ↦ end_exchange e.number s | false ↦ on_exchange e.number left_alone s ]))
    by true = conns_apart (without_ask e.number) (λ k. refl) (view s) h
    by false = h

all_left : (ns : List ℕ) (s : State) → Apart (view s) → Apart (view (each_exchange leave_one ns s))
unfolding each_exchange
all_left [] s h = h
all_left (n ∷ ns) s h = all_left ns _ (by (exchange s n))
  where
    by : (o : Option Exchange) → Apart (view (elim o as (λ c. State) [ None ↦ s | Some e ↦ leave_one e s ]))
    by None = h
    by (Some e) = one_left e s h

closed_apart : (n : ℕ) (f : Client → Client) → ((c : Client) → (f c).number ≡ c.number) → ((c : Client) → (f c).is_closing ≡ true) → (s : State) → Apart (view s) → Apart (view (each_exchange leave_one (exchanges_of n s) (on_client n f s)))
unfolding on_client
closed_apart n f number closing s h = all_left (exchanges_of n s) (on_client n f s) (clients_apart (changed_at (is_client n) f) (number_at (is_client n) f number) (view s) h)

apart_walk : Walk Apart
apart_walk = record {
  clients = λ f same_one v h. clients_apart f (λ c. (same_one c).number) v h;
  asks = λ f v same_one h. h;
  left = λ test v h. h;
  over = λ test v h. h;
  conns = λ f lesser v h. conns_apart f (λ k. (lesser k).number) v h;
  rows = λ xs next v from h. h;
  leaves = λ n f moves v h. clients_apart (changed_at (is_client n) f) (number_at (is_client n) f (λ c. (moves c).number)) v h;
  closes = λ n f number closing body brought s h. closed_apart n f number closing s h;
  tells = λ test b v there h. clients_apart (changed_at test (λ c. record c { brought = b })) (number_at test (λ c. record c { brought = b }) (λ c. refl)) v h;
}

apart_begins : Begins Apart
unfolding begin_exchange add_exchange leave forsake
apart_begins e s is_new h = h

apart_follows : Follows Apart
apart_follows n id f request source v late there h = clients_apart (changed_at (is_client n) f) (number_at (is_client n) f (λ c. (request c).number)) v h

put_apart : (n k : ℕ) (s : State) → Apart (view s) → Apart (view (put_on n k s))
unfolding put_on on_conn on_exchange
put_apart n k s h = conns_apart (changed_at (is_conn k) (λ j. record j { line = j.line ++ n ∷ [] })) (λ j. by j (is_conn k j)) (view s) h
  where
    by : (j : Conn) (t : Bool) → (elim t as (λ c. Conn) [ true ↦ record j { line = j.line ++ n ∷ [] } | false ↦ j ]).number ≡ j.number
    by j true = refl
    by j false = refl

placing-apart : (s : State) → Holds Apart s → Holds Apart (placing s).state
placing-apart s h = placing_puts (Holds Apart) (λ n k e t found is ht. holds (put_apart n k t (facts_of ht))) s h

-- ---- one read

end_if_empty-apart : (k : Conn) (e : Exchange) (a : Answer) (s : State) → Holds Apart s → Holds Apart (end_if_empty k e a s)
unfolding end_if_empty
end_if_empty-apart k e a s h = by_outcome (body_of a.rule []).outcome (λ rest. finish-keeps apart_walk k e a s h) h h

begin_answer-apart : (k : Conn) (e : Exchange) (head : Response) (rule : BodyRule) (s : State) → Holds Apart s → Holds Apart (begin_answer k e head rule s)
unfolding begin_answer
begin_answer-apart k e head rule s h = end_if_empty-apart k e (answer_with e head rule) _ (by_aim-keeps apart_walk e head rule _ (on_conn-keeps apart_walk k.number _ s (λ j. same_conn _ j refl refl refl) h))

answer_for-apart : (k : Conn) (e : Exchange) (head : Response) (s : State) → Holds Apart s → Holds Apart (answer_for k e head s)
unfolding answer_for
answer_for-apart k e head s h = when (is_wrong_head e head) (bad_head-keeps apart_walk k s h) (by_rule (rule_of (asks_head e) head.status head.fields))
  where
    by_rule : (read : Result BodyRule ResponseFault) → Holds Apart (elim read as (λ c. State) [ Ok rule ↦ begin_answer k e head rule s | Err fault ↦ bad_head k s ])
    by_rule (Ok rule) = begin_answer-apart k e head rule s h
    by_rule (Err fault) = bad_head-keeps apart_walk k s h

-- the kept row of its key comes into memory for it
bring_row-apart : (e : Exchange) (head : Response) (s : State) → Holds Apart s → Holds Apart (bring_row e head s)
unfolding bring_row
bring_row-apart e head s h = when (is_readable e head) (enter-keeps apart_walk.rows (key_of e) true s h) h

head_came-apart : (k : Conn) (head : Response) (s : State) → Holds Apart s → Holds Apart (head_came k head s)
unfolding head_came
head_came-apart k head s h = each_so (front_of_line s k) (λ none. close_conn-keeps apart_walk false k s h) (λ e first. answer_for-apart k e head _ (bring_row-apart e head s h))

piece_when : (t : Bool) (p q : Piece) → Holds Apart p.state → Holds Apart q.state → Holds Apart (elim t as (λ c. Piece) [ true ↦ p | false ↦ q ]).state
piece_when true p q hp hq = hp
piece_when false p q hp hq = hq

with_unread-apart : (k : Conn) (bytes : Bytes) (s : State) → Holds Apart s → Holds Apart (on_conn k.number (with_unread bytes) s)
with_unread-apart k bytes s h = on_conn-keeps apart_walk k.number (with_unread bytes) s (λ j. same_conn _ j refl refl refl) h

head_piece_by : (k : Conn) (bytes : Bytes) (s : State) (read : Read Response) → Holds Apart s
    → Holds Apart (elim read as (λ c. Piece) [
      | More ↦ record { state = on_conn k.number (with_unread bytes) s; rest = [] }
      | TooLong ↦ record { state = bad_head k s; rest = [] }
      | NoHead ↦ record { state = bad_head k s; rest = [] }
      | Whole head ↦ elim (is_interim head.status) as (λ c. Piece) [
        | true ↦ record { state = on_conn k.number (with_unread []) s; rest = drop head.length bytes }
        | false ↦ record { state = head_came k head s; rest = drop head.length bytes }
      ]
    ]).state
head_piece_by k bytes s More h = with_unread-apart k bytes s h
head_piece_by k bytes s TooLong h = bad_head-keeps apart_walk k s h
head_piece_by k bytes s NoHead h = bad_head-keeps apart_walk k s h
head_piece_by k bytes s (Whole head) h = piece_when (is_interim head.status) _ _ (with_unread-apart k [] s h) (head_came-apart k head s h)

head_piece-apart : (k : Conn) (bytes : Bytes) (s : State) → Holds Apart s → Holds Apart (head_piece k bytes s).state
head_piece-apart k bytes s h = piece_when (is_early s k) _ _ (close_conn-keeps apart_walk true k s h) (head_piece_by k (k.unread ++ bytes) s (response_at (k.unread ++ bytes)) h)

-- ---- bodies

note_own-apart : (e : Exchange) (a : Answer) (at : ℕ) (bytes : Bytes) (s : State) → Holds Apart s → Holds Apart (note_own e a at bytes s)
unfolding note_own
note_own-apart e a at bytes s h = when (is_empty bytes) h (holds (facts_of h))

note_sent-apart : (e : Exchange) (a : Answer) (at : ℕ) (bytes : Bytes) (s : State) → Holds Apart s → Holds Apart (note_sent e a at bytes s)
unfolding note_sent
note_sent-apart e a at bytes s h = by_aim_of e.aim h (note_own-apart e a at bytes s h) (λ v from to. note_own-apart e a at bytes s h)

join-apart : (b : Bound) (bytes : Bytes) (s : State) → Holds Apart s → Holds Apart (join b bytes s)
unfolding join note_use
join-apart b bytes s h = each_of (joined_one b bytes s) h (λ x. holds (facts_of h))

moved_same : (m : ℕ) (e : Exchange) → SameAsk (moved_on m e) e
moved_same m e = by (bound_of e)
  where
    by : (o : Option Bound) → SameAsk (elim o as (λ c. Exchange) [ None ↦ e | Some b ↦ record e { body = Joining (record b { next = b.next + m }) } ]) e
    by None = same_ask e e refl refl refl refl refl refl (λ is. is)
    by (Some b) = same_ask _ e refl refl refl refl refl refl (λ is. is)

join_bound-apart : (e : Exchange) (bytes : Bytes) (s : State) → Holds Apart s → Holds Apart (join_bound e bytes s)
unfolding join_bound
join_bound-apart e bytes s h = each_of (bound_of e) h (λ b. on_exchange-keeps apart_walk e.number (moved_on (length bytes)) _ (moved_same (length bytes)) (join-apart b bytes s h))

deliver-apart : (e : Exchange) (a : Answer) (at : ℕ) (bytes : Bytes) (s : State) → Holds Apart s → Holds Apart (deliver e a at bytes s)
unfolding deliver
deliver-apart e a at bytes s h = pour-keeps apart_walk e (poured bytes) _ (join_bound-apart e bytes _ (note_sent-apart e a at bytes s h))

body_piece_by : (k : Conn) (a : Answer) (e : Exchange) (bytes : Bytes) (t : State) (outcome : Outcome) → Holds Apart t
    → Holds Apart (elim outcome as (λ c. Piece) [
      | Going ↦ record { state = on_conn k.number (λ i. record i { answer = Some (record a { raw = a.raw ++ bytes }) }) t; rest = [] }
      | Bad ↦ record { state = bad_response k t; rest = [] }
      | Done rest ↦ record { state = finish k e a t; rest = rest }
    ]).state
body_piece_by k a e bytes t Going h = on_conn-keeps apart_walk k.number _ t (λ j. same_conn _ j refl refl refl) h
body_piece_by k a e bytes t Bad h = bad_response-keeps apart_walk k t h
body_piece_by k a e bytes t (Done rest) h = finish-keeps apart_walk k e a t h

body_piece-apart : (k : Conn) (a : Answer) (bytes : Bytes) (s : State) → Holds Apart s → Holds Apart (body_piece k a bytes s).state
body_piece-apart k a bytes s h = by (front_of_line s k)
  where
    by : (front : Option Exchange) → Holds Apart (elim front as (λ c. Piece) [ None ↦ record { state = close_conn false k s; rest = [] } | Some e ↦ body_piece_of k a e bytes s ]).state
    by None = close_conn-keeps apart_walk false k s h
    by (Some e) =
        let at : ℕ = length (payload_of a) in
        let fresh : Bytes = drop at (body_of a.rule (a.raw ++ bytes)).payload in
        body_piece_by k a e bytes (deliver e a at fresh s) (body_of a.rule (a.raw ++ bytes)).outcome (deliver-apart e a at fresh s h)

next_piece-apart : (k : Conn) (bytes : Bytes) (s : State) → Holds Apart s → Holds Apart (next_piece k bytes s).state
next_piece-apart k bytes s h = by k.answer
  where
    by : (answer : Option Answer) → Holds Apart (elim answer as (λ c. Piece) [ Some a ↦ body_piece k a bytes s | None ↦ head_piece k bytes s ]).state
    by None = head_piece-apart k bytes s h
    by (Some a) = body_piece-apart k a bytes s h

-- ---- the read

got-apart : (more n : ℕ) (bytes : Bytes) (s : State) → Holds Apart s → Holds Apart (got more n bytes s)
unfolding got
got-apart zero n bytes s h = h
got-apart (suc more) n bytes s h = each_of (conn s n) h (λ k. when (k.is_closing || is_empty bytes) h (got-apart more n (next_piece k bytes s).rest (next_piece k bytes s).state (next_piece-apart k bytes s h)))

-- ---- phases

behind-apart : (phase : Phase) (s : State) → Holds Apart s → Holds Apart (behind phase s)
behind-apart Before s h = h
behind-apart IsWoken s h = h
behind-apart IsConfigured s h = h
behind-apart IsRooted s h = h
behind-apart IsListed s h = h
behind-apart IsListening s h = h
behind-apart IsStuck s h = h
behind-apart Awaiting s h = h
behind-apart Handling s h = holds (facts_of h)
behind-apart Evicting s h = give_up_asks-keeps apart_walk _ (holds (facts_of h))
behind-apart Keeping s h = holds (facts_of h)
behind-apart Deciding s h = holds (facts_of h)
behind-apart Following s h = fill-keeps apart_walk apart_begins _ (give_up_asks-keeps apart_walk _ (drop_unseen-keeps apart_walk _ (holds (facts_of h))))
behind-apart Connecting s h = placing-apart (in_phase DecidingAgain s) (holds (facts_of h))
behind-apart DecidingAgain s h = h

next-apart : Stays (Holds Apart)
unfolding next
next-apart s done h = behind-apart s.phase s h

next_apart : (s : State) → Holds Apart s → Holds Apart (next s)
unfolding next
next_apart s h = behind-apart s.phase s h

come-apart : (stops : State → Bool) (ps : List Phase) (s : State) → Holds Apart s → Holds Apart (come stops ps s)
unfolding come
come-apart stops [] s h = h
come-apart stops (p ∷ ps) s h = come-apart stops ps _ (when (is_at p s) (when (stops s) h (when (is_done s) (next_apart s h) h)) h)

come_to-apart : (phase : Phase) (s : State) → Holds Apart s → Holds Apart (come_to phase s)
unfolding come_to
come_to-apart phase s h = come-apart (is_at phase) phases s h

come_to_decide-apart : (s : State) → Holds Apart s → Holds Apart (come_to_decide s)
unfolding come_to_decide
come_to_decide-apart s h = come-apart decides phases s h

deciding-apart : (s : State) → Holds Apart s → Holds Apart (deciding s)
unfolding deciding
deciding-apart s h = holds (facts_of (come_to_decide-apart s h))

deciding_late : (s : State) → is_late (deciding s).phase ≡ true
unfolding deciding
deciding_late s = refl

ending-apart : (s : State) → Holds Apart s → Holds Apart (ending s)
unfolding ending
ending-apart s h = begin_replies-keeps apart_walk _ (come_to-apart DecidingAgain s h)

-- ---- events

event-apart : (s : State) → Holds Apart s → Holds Apart (event s)
unfolding event
event-apart s h = regained-keeps apart_walk _ (holds (facts_of h))

paid-apart : (s : State) → Holds Apart s → Holds Apart (paid s)
unfolding paid
paid-apart s h = regained-keeps apart_walk _ (holds (facts_of h))

lt_apart : (m n : ℕ) → m < n → n ≡ m → ⊥
lt_apart m n lt is = omega arith

opened-apart : (n : ℕ) (s : State) → ((k : Conn) → IsIn k s.conns → k.number < n) → Holds Apart s → Holds Apart (opened n s)
unfolding opened
opened-apart n s below h = holds (λ c k i j is. by c k (in_push c s.clients (new_client n s.clock) i) j is)
  where
    by : (c : Client) (k : Conn) → IsIn c s.clients ⊎ (c ≡ new_client n s.clock) → IsIn k s.conns → c.number ≡ k.number → ⊥
    by c k (inl i) j is = facts_of h c k i j is
    by c k (inr eq) j is = lt_apart k.number n (below k j) (sym (ap client_number eq) ∙ is)

reached-apart : (n : ℕ) (s : State) → Holds Apart s → Holds Apart (reached n s)
unfolding reached
reached-apart n s h = touch-keeps apart_walk n _ (on_conn-keeps apart_walk n _ s (λ k. same_conn _ k refl refl refl) h)

owing-apart : (owed : Owed) (n : ℕ) (s : State) → Holds Apart s → Holds Apart (event (owing owed n s))
unfolding owing
owing-apart owed n s h = event-apart _ (holds (facts_of (touch-keeps apart_walk n s h)))

said-apart : (c n : ℕ) (s : State) → Holds Apart s → Holds Apart (said c n s)
unfolding said
said-apart c n s h = each_of (client s c) h (λ x. end_replies-keeps apart_walk _ (on_client-keeps apart_walk c (said_by n) _ (said_by-same n) (use_said-keeps n x s h)))

gone-apart : (is_clean : Bool) (n : ℕ) (s : State) → Holds Apart s → Holds Apart (gone is_clean n s)
unfolding gone
gone-apart is_clean n s h = each_of (conn s n) h (λ k. end_replies-keeps apart_walk _ (ended-keeps apart_walk is_clean k s h))

-- ---- notes

take_decision-apart : (n : ℕ) (d : Decision) (s : State) → is_late s.phase ≡ true → ((c : Client) → client s n ≡ Some c → c.is_closing ≡ false) → ((c : Client) → client s n ≡ Some c → IsHeard c) → Holds Apart s → Holds Apart (take_decision n d s)
unfolding take_decision
take_decision-apart n d s late going bodied h =
    each_so (client s n) (λ none. h)
    (λ c found. regained-keeps apart_walk _ (holds (facts_of (decided-keeps apart_walk apart_begins apart_follows c d s (bodied c found) (record { there = (in_find (is_client n) c s.clients found).0; going = going c found }) late h))))

evicted-apart : (s : State) → Holds Apart s → Holds Apart (evicted s)
unfolding evicted
evicted-apart s h = each_of (due_victim s) h (λ place. drop_chunk-keeps place.0 place.1 s h)

refused_row-apart : (x : Instance) (s : State) → Holds Apart s → Holds Apart (refused_row x s)
unfolding refused_row forget
refused_row-apart x s h = holds (clients_apart (changed_at (waits_for_row x.id) (λ c. record c { course = RowRefused })) (number_at (waits_for_row x.id) (λ c. record c { course = RowRefused }) (λ c. refl)) (view s) (facts_of h))

forget-apart : (id : ℕ) (s : State) → Holds Apart s → Holds Apart (forget id s)
unfolding forget
forget-apart id s h = holds (facts_of h)

leave_memory-apart : (how : Leaving) (s : State) → Holds Apart s → Holds Apart (leave_memory how s)
unfolding leave_memory
leave_memory-apart ForAnother s h = holds (facts_of (come_to-apart Evicting s h))
leave_memory-apart (ForMemory x) s h = refused_row-apart x _ (come_to-apart Evicting s h)
leave_memory-apart (BeforeDecision x) s h = holds (facts_of (forget-apart x.id _ (come_to_decide-apart s h)))

forgotten_by-apart : (key : Bytes) (s : State) → Holds Apart s → Holds Apart (forgotten_by key s)
unfolding forgotten_by
forgotten_by-apart key s h = each_of (leaving_as s key) h (λ how. leave_memory-apart how s h)

load-apart : (key : Bytes) (i : ℕ) (s : State) → Holds Apart s → Holds Apart (load key i s)
unfolding load load_from note_use
load-apart key i s h = each_of (row s key) h (λ x. each_of (kept_row s key) h (λ e. holds (facts_of h)))

-- ---- the disk, and the opening

begun_op-apart : (op : DiskOp) (s : State) → Holds Apart s → Holds Apart (begun_op op s)
unfolding begun_op
begun_op-apart op s h = when (is_opening s) (begin_in_opening-keeps op s h) (begin_in_turn-keeps op _ (come_to-apart Keeping s h))

ended_op-apart : (op : DiskOp) (ok : Bool) (s : State) → Holds Apart s → Holds Apart (ended_op op ok s)
unfolding ended_op
ended_op-apart op true s h = end_op-keeps op true s h
ended_op-apart op false s h = lose_in_opening-keeps s.agenda.name _ (end_op-keeps op false s h)

unread-apart : (name : Bytes) (s : State) → Holds Apart s → Holds Apart (unread name s)
unfolding unread
unread-apart name s h = paid-apart _ (lose_in_opening-keeps name _ (close_name-keeps name s h))

with_settings-apart : (o : Option Settings) (s : State) → Holds Apart s → Holds Apart (with_settings o s)
unfolding with_settings
with_settings-apart None s h = holds (facts_of h)
with_settings-apart (Some c) s h = holds (facts_of h)

begun-apart : (s : State) → Holds Apart s → Holds Apart (begun s)
unfolding begun
begun-apart s h = by (are_texts s.term)
  where
    by : (t : Bool) → Holds Apart (elim t as (λ c. State) [
      | false ↦ with_settings None s
      | true ↦ elim (names_file s.term) as (λ c. State) [ true ↦ record s { phase = IsWoken } | false ↦ with_settings (settings_in (reading_of s.term.words None)) s ]
    ])
    by false = with_settings-apart None s h
    by true = when (names_file s.term) (holds (facts_of h)) (with_settings-apart (settings_in (reading_of s.term.words None)) s h)

woken-apart : (image : Files) (s : State) → Holds Apart (woken image s)
unfolding woken
woken-apart image s = begun-apart _ (holds (λ c k i. absurd i))

opened_to-apart : (phase : Phase) (ok : Bool) (s : State) → Holds Apart s → Holds Apart (opened_to phase ok s)
unfolding opened_to stuck
opened_to-apart phase true s h = holds (facts_of h)
opened_to-apart phase false s h = holds (facts_of h)

configured-apart : (text : Option Bytes) (s : State) → Holds Apart s → Holds Apart (configured text s)
unfolding configured stuck
configured-apart None s h = holds (facts_of h)
configured-apart (Some text) s h = with_settings-apart (settings_in (reading_of s.term.words (Some text))) s h

-- ---- closings and places

shut-apart : (n : ℕ) (s : State) → Holds Apart s → Holds Apart (shut n s)
unfolding shut
shut-apart n s h = holds (λ c k i j is. facts_of (close_client-keeps apart_walk n false s h) c k (in_filter (λ x. not (is_client n x)) c (close_client n false s).clients i).0 j is)

dialled-apart : (n : ℕ) (host : Bytes) (port : ℕ) (p : Placement) → ((c : Client) → IsIn c p.state.clients → c.number < n) → Holds Apart p.state → Holds Apart (dialled n host port p)
unfolding dialled
dialled-apart n host port p below h = by_pause p.pause h (λ k e. h) (λ e. holds (put_apart e.number n _ added))
  where
    by : (c : Client) (k : Conn) → IsIn c p.state.clients → IsIn k p.state.conns ⊎ (k ≡ new_conn n host port p.state.clock) → c.number ≡ k.number → ⊥
    by c k i (inl j) is = facts_of h c k i j is
    by c k i (inr eq) is = lt_apart c.number n (below c i) (sym (is ∙ ap conn_number eq))

    added : Apart (view (record p.state { conns = p.state.conns ++ new_conn n host port p.state.clock ∷ []; top = n }))
    added c k i j is = by c k i (in_push k p.state.conns (new_conn n host port p.state.clock) j) is

refused_dial-apart : (e : Exchange) (s : State) → Holds Apart s → Holds Apart (refused_dial e s)
unfolding refused_dial
refused_dial-apart e s h = when (may_ask_again s e.number) h (fill-keeps apart_walk apart_begins _ (end_exchange-keeps apart_walk e.number _ h))

undialled-apart : (p : Placement) → Holds Apart p.state → Holds Apart (undialled p)
unfolding undialled
undialled-apart p h = by_pause p.pause h (λ k e. h) (λ e. refused_dial-apart e _ (lose_attempt-keeps apart_walk e _ (holds (facts_of h))))

out-apart : (n : ℕ) (s : State) → Holds Apart s → Holds Apart (out n s)
unfolding out
out-apart n s h = holds (λ c k i j is. facts_of h c k i (in_filter (λ x. not (is_conn n x)) k s.conns j).0 is)

dropped-apart : (n : ℕ) (s : State) → Holds Apart s → Holds Apart (dropped n s)
unfolding dropped
dropped-apart n s h = each_of (conn s n) h (λ k. when k.is_closing (out-apart n s h) (out-apart n _ (placing-apart s h)))

rest_with-apart : (w : Wants) (s : State) → Holds Apart s → Holds Apart (rest_with w s)
unfolding rest_with
rest_with-apart w s h = holds (rested-keeps apart_walk w s h)

-- ---- what is permitted

unhampered : (made : Option ℕ) (t : Bool) → (elim made as (λ c. Bool) [ Some who ↦ false | None ↦ t ]) ≡ true → t ≡ true
unhampered (Some who) t is = absurd (cc is)
unhampered None t is = is

new_above : (s : State) (n : ℕ) → is_new_number s n ≡ true → s.top < n
new_above s n is = below s.top n is

opened_new : (s : State) (n : ℕ) → IsPermitted s (Opened n) → is_new_number s n ≡ true
unfolding is_permitted permits
opened_new s n is = first_holds (is_new_number s n) _ (second_holds (is_awaiting s) (may_open s n) (unhampered s.made_room_for (is_awaiting s && may_open s n) is))

dialled_new : (s : State) (n : ℕ) (host : Bytes) (port : ℕ) → IsPermitted s (Dialled n host port) → is_new_number s n ≡ true
unfolding is_permitted permits
dialled_new s n host port is = first_holds (is_new_number s n) (permits_dial s host port) (unhampered s.made_room_for (is_new_number s n && permits_dial s host port) is)

le_lt : (a b c : ℕ) → a ≤ b → b < c → a < c
le_lt a b c le lt = omega arith

dial_above : {b : Since} (s : State) (n : ℕ) → Sound b s → s.top < n → (c : Client) → IsIn c (placing (come_to Connecting s)).state.clients → c.number < n
dial_above s n so lt c i =
    let t : State = come_to Connecting s in
    let given : c.number ≤ (placing t).state.top = (sound_facts (placing-sound t (come_to-sound Connecting s so))).callers.given c i in
    le_lt c.number s.top n (subst (λ m. c.number ≤ m) (placing-top t ∙ come_to-top Connecting s) given) lt

noted-apart : {b : Since} (remark : Remark) (s : State) → Sound b s → Holds Turn s → IsPermitted s (Noted remark) → Holds Apart s → Holds Apart (noted remark s)
unfolding noted
noted-apart (Taken c i d) s so turn is h =
    let may = taken_so s c i d is in take_decision-apart c d _ (deciding_late s) (taken_going s c i d so may) (taken_bodied s c i d may turn) (deciding-apart s h)
noted-apart (Cut c cause) s so turn is h = close_client-keeps apart_walk c true _ (deciding-apart s h)
noted-apart (Kept key tag n extent) s so turn is h = note_kept-keeps key extent s h
noted-apart (Gone key) s so turn is h = note_gone-keeps key _ (come_to-apart Keeping s h)
noted-apart (Forgotten key) s so turn is h = forgotten_by-apart key s h
noted-apart (Evicted key tag n i) s so turn is h = evicted-apart _ (come_to-apart Evicting s h)
noted-apart (Loaded key tag n i) s so turn is h = load-apart key i s h

after-apart : {b : Since} (s : State) (h : Happening) → Sound b s → Holds Turn s → IsPermitted s h → Holds Apart s → Holds Apart (after s h)
unfolding changed
after-apart s (Woke image) so turn is h = woken-apart image s
after-apart s (Waits w) so turn is h = rest_with-apart w _ (ending-apart s h)
after-apart s (Clock seconds) so turn is h = event-apart _ (tick-keeps apart_walk seconds s h)
after-apart s (Opened n) so turn is h = event-apart _ (opened-apart n s (λ k i. le_lt k.number s.top n ((sound_facts so).lines.given k i) (new_above s n (opened_new s n is))) h)
after-apart s (CanRead n) so turn is h = owing-apart (ReadOf n) n s h
after-apart s (CanWrite n) so turn is h = owing-apart (WriteTo n) n s h
after-apart s (Heard c bytes) so turn is h = paid-apart _ (hear-keeps apart_walk c bytes s h)
after-apart s (HungUp c) so turn is h = paid-apart _ (hang_up-keeps apart_walk c s h)
after-apart s (Said c offered bytes) so turn is h = paid-apart _ (said-apart c (length bytes) s h)
after-apart s (Shut c) so turn is h = shut-apart c _ (come_to-apart Connecting s h)
after-apart s (Dialled n host port) so turn is h =
    dialled-apart n host port (placing (come_to Connecting s)) (dial_above s n so (new_above s n (dialled_new s n host port is))) (placing-apart _ (come_to-apart Connecting s h))
after-apart s (Undialled host port) so turn is h = undialled-apart (placing (come_to Connecting s)) (placing-apart _ (come_to-apart Connecting s h))
after-apart s (Reached n) so turn is h = event-apart _ (reached-apart n s h)
after-apart s (Ended n) so turn is h = paid-apart _ (gone-apart true n s h)
after-apart s (Broke n) so turn is h = paid-apart _ (gone-apart false n _ (event-apart s h))
after-apart s (Asked n bytes) so turn is h = paid-apart _ (ask-keeps apart_walk n (length bytes) s (asked_placed s n so) h)
after-apart s (Got n bytes) so turn is h = paid-apart _ (end_replies-keeps apart_walk _ (got-apart (length bytes) n bytes s h))
after-apart s (Dropped n) so turn is h = dropped-apart n _ (come_to-apart Connecting s h)
after-apart s (NoneYet n) so turn is h = paid-apart s h
after-apart s (Began op) so turn is h = begun_op-apart op s h
after-apart s (Did op ok) so turn is h = ended_op-apart op ok s h
after-apart s (Unread name) so turn is h = unread-apart name s h
after-apart s (Noted remark) so turn is h = noted-apart remark s so turn is h
after-apart s (Rooted folder) so turn is h = opened_to-apart IsRooted true s h
after-apart s (Listed ok) so turn is h = opened_to-apart IsListed ok s h
after-apart s (Listens port ok) so turn is h = opened_to-apart IsListening ok s h
after-apart s (Configured file text) so turn is h = configured-apart text s h
after-apart s (Printed text) so turn is h = h
after-apart s Stopped so turn is h = event-apart _ (holds (facts_of h))

-- ---- at each moment

start-apart : (terms : List Term) → Holds Apart (start terms)
start-apart terms = holds (λ c k i. absurd i)

log_sound : (terms : List Term) (log : Log) → Lawful terms log → Sound (record { old = []; counts_loads = false; excepts = None }) (state_after terms log)
log_sound terms log lawful = (log-good terms log lawful).sound

apart_steps : Steps (Holds Apart)
apart_steps terms front h one apart =
    let lawful : Lawful terms front = front_from (start terms) front (h ∷ []) one.lawful in after-apart (state_after terms front) h (log_sound terms front lawful) (turn_at terms front lawful) one.permitted apart

whole : (terms : List Term) (log : Log) → Lawful terms log → Lawful terms (log ++ [])
whole terms log lawful = subst (λ (l : Log). Lawful terms l) (sym (append-nil log)) lawful

pub apart_on : (terms : List Term) (s : State) (log : Log) → Obeys terms s log → Holds Apart s
apart_on terms s log obeys = obeying (Holds Apart) next-apart terms s log obeys (along (Holds Apart) start-apart apart_steps terms log [] (whole terms log obeys.lawful))

pub ends_apart : (terms : List Term) (s : State) (log : Log) → Obeys terms s log → AreApart (ending s)
ends_apart terms s log obeys = facts_of (ending-apart s (apart_on terms s log obeys))

pub numbers_apart : NumbersAreApart
numbers_apart terms s log obeys = facts_of (apart_on terms s log obeys)
