-- What one read brings, response by response, each phase and each happening keep what is kept of clients, exchanges and rows.
use Rattle.std.proofs.Common.{◌≡◌, ◌⊎◌, refl, ℕ, zero, suc, ◌+◌, ◌<◌, ◌≤◌, Bool, true, false, not, ◌==◌, ◌&&◌, ◌||◌, List, [], ◌∷◌, ◌++◌, map, filter, drop, length, bytes_eq, is_some, Option, Some, None, option_and_then, option_map, Result, Ok, Err, inl, inr, sym, subst, ap, ◌∙◌, arith}
use Rattle.std.specs.List.{list_any}
use Rattle.pp_conf.specs.Conf.{Settings}
use Rattle.pp_conf.specs.Words.{file_of, reading_of}
use Rattle.pp_framing.specs.Body.{Outcome, Done, Going, Bad}
use Rattle.pp_framing.specs.Framing.{rule_of}
use Rattle.pp_framing.specs.Rules.{body_of}
use Rattle.pp_framing.specs.declared.body.BodyRule.{BodyRule}
use Rattle.pp_framing.specs.declared.framing.ResponseFault.{ResponseFault}
use Rattle.pp_head.specs.Read.{Read, Whole, TooLong, Bad as NoHead, More}
use Rattle.pp_head.specs.Response.{Response, response_at}
use Rattle.pp_pipe.specs.Front.{is_interim}
use Rattle.pp_text.specs.Bytes.{is_empty}
use Rattle.pp_world.specs.Files.{Files}
use Rattle.pp_world.specs.declared.event.Wants.{Wants}
use Rattle.pp_world.specs.declared.happening.Happening.TheVariants.{Woke, Waits, Clock, Opened, CanRead, CanWrite, Heard, HungUp, Said, Shut, Dialled, Undialled, Reached, Ended, Broke, Asked, Got, Dropped, NoneYet, Began, Did, Unread, Noted, Rooted, Listed, Listens, Configured, Printed, Stopped}
use Rattle.pp_world.specs.declared.happening.Happening.{Happening}
use Rattle.pp_world.specs.declared.note.Cause.{Cause}
use Rattle.pp_world.specs.declared.note.Decision.TheVariants.{Refuse}
use Rattle.pp_world.specs.declared.note.Decision.{Decision}
use Rattle.pp_world.specs.declared.note.Remark.TheVariants.{Taken, Cut, Kept, Gone, Forgotten, Evicted, Loaded}
use Rattle.pp_world.specs.declared.note.Remark.{Remark}
use Rattle.pp_world.specs.declared.op.DiskOp.{DiskOp}
use Rattle.pp_law.specs.After.{waits_for_row, new_client, event, opened, new_conn, owing, reached, paid, said, gone, take_decision, evicted, brings_to, dropping_body, refused_row, leave_memory, forgotten_by, noted, begun_op, ended_op, unread, shut, dialled, refused_dial, undialled, out, dropped, changed, after}
use Rattle.pp_law.specs.Asking.{asking, is_reading, is_writing, left_in}
use Rattle.pp_law.specs.Chunks.{note_use}
use Rattle.pp_law.specs.Closing.{close_client, exchanges_of, leave_one, left_alone}
use Rattle.pp_law.specs.Connections.{client, conn, each_exchange, end_exchange, exchange, front_of_line, is_client, is_conn, is_exchange, may_ask_again, on_client, on_conn, on_exchange, close_conn, placing, Pause, AllPlaced, Placement, WaitsDial, WaitsDrop, put_on}
use Rattle.pp_law.specs.Deciding.{is_for_memory}
use Rattle.pp_law.specs.Due.{Due, Decide, CutOff, due_by_stage, due_cut, due_decision, due_of, first_due, next_due}
use Rattle.pp_law.specs.Leaving.{Leaving, ForAnother, ForMemory, BeforeDecision, before_decision, forgets_next, if_so, is_first, leaving_as, makes_room}
use Rattle.pp_law.specs.Lists.{Bytes, change, first_some, is_some_with, is_this}
use Rattle.pp_law.specs.Opening.{terms_behind, are_texts, begun, configured, is_at, is_opening, is_recovered, may_fail, names_file, opened_to, permits_configured, permits_listens, permits_rooted, settings_in, stuck, with_settings, woken}
use Rattle.pp_law.specs.OwnHeads.{is_wrong_head, key_of, join, joined_one, join_bound, moved_on, note_own, note_sent}
use Rattle.pp_law.specs.Passing.{poured}
use Rattle.pp_law.specs.Permits.{has_conn, has_room_for, is_due_decision, is_new_number, is_owed, is_permitted, is_same_decision, IsPermitted, may_cut, may_open, may_take, may_want_memory, permits, permits_broke, permits_dial, permits_taken}
use Rattle.pp_law.specs.Phases.{phases, in_phase, is_awaiting, is_done, is_done_with, is_free, behind, next, come, come_to, come_to_decide, decides, deciding, due_victim, ending, may_decide, may_in}
use Rattle.pp_law.specs.Replies.{said_by}
use Rattle.pp_law.specs.Responses.{bad_head, bad_response, finish, asks_head, answer_with, answered_by, end_if_empty, begin_answer, answer_for, bring_row, head_came, is_readable, Piece, is_early, with_unread, head_piece, deliver, payload_of, body_piece_of, body_piece, next_piece, got}
use Rattle.pp_law.specs.Stages.{bound_of, reply_of}
use Rattle.pp_law.specs.State.{State, Term, start, RowRefused, Phase, Before, IsWoken, IsConfigured, IsRooted, IsListed, IsListening, IsStuck, Awaiting, Handling, Evicting, Keeping, Deciding, Following, Connecting, DecidingAgain, Owed, Free, ReadOf, WriteTo, Joining, Answer, Bound, Client, Conn, Exchange, Instance, Reply, Stage, Undecided, Waiting, Passing, Answering}
use Rattle.pp_law.specs.Table.{follows, forget, idle_row, instance, is_followed, is_row_of, kept_row, row}
use Rattle.pp_law.specs.Store.{load, load_from}
use Rattle.pp_law.specs.Turn.{rest_with, rested_client, rested_conn, rested_instance, tick, touch}
use Rattle.pp_law.specs.Unseen.{rested_exchange}
use Rattle.pp_laws.specs.Runs.{IsIn}
use Rattle.pp_laws.proofs.Dues.{next_in}
use Rattle.pp_laws.proofs.Lists.{in_filter, in_find, in_front, in_map, in_push, one_of}
use Rattle.pp_laws.proofs.Sound.{FactsOf, Since, Sound, client_number, facts_of as sound_facts, instance_id, source_in}
use Rattle.pp_laws.proofs.Places.{placing-dial, placing-sound}
use Rattle.pp_laws.proofs.Steps.{come_to-sound, come_to_decide-sound}
use Rattle.pp_laws.proofs.Tops.{come_to-top, placing-top}
use Rattle.pp_laws.proofs.Tests.{below, first_holds, same_number, second_holds}
use Rattle.pp_laws_asks.proofs.InOrder.{found_in}
use Rattle.pp_laws_bounds.proofs.Counts.{in_filter_of}
use Rattle.pp_obeys.proofs.Come.{next-phase, onward, same_phase}
use Rattle.pp_obeys.proofs.Forgetting.{leaving_with}
use Rattle.pp_laws_turn.proofs.View.{View, Walk, Goes, Holds, IsHeard, IsFollowed, SameAsk, facts_of, holds, is_late, joined_in, view}
use Rattle.pp_laws_turn.proofs.Cases.{by_aim_of, by_outcome, by_pause, each_of, each_so, when, when_so}
use Rattle.pp_laws_turn.proofs.Clients.{HasPlace, ask-keeps, begin_replies-keeps, close_client-keeps, decided-named, end_replies-keeps, fill-keeps, give_up_asks-keeps, hang_up-keeps, hear-keeps, pour-keeps, regained-keeps, use_said-keeps}
use Rattle.pp_laws_turn.proofs.Closings.{close_conn-keeps}
use Rattle.pp_laws_turn.proofs.Disk.{begin_in_opening-keeps, begin_in_turn-keeps, close_name-keeps, end_op-keeps, lose_in_opening-keeps, note_gone-keeps, note_kept-keeps}
use Rattle.pp_laws_turn.proofs.Exchanges.{clients_changed-keeps, end_exchange-keeps, exchanges_changed-keeps, lose_attempt-keeps, on_client-keeps, on_conn-keeps, on_exchange-keeps, same_ask, same_conn, same_parts}
use Rattle.pp_laws_turn.proofs.Heads.{by_aim-named}
use Rattle.pp_laws_turn.proofs.Keys.{key_short}
use Rattle.pp_laws_turn.proofs.Kept.{IsShort, named_short, Turn, closed_alone, differs, turn_begins, turn_follows, turn_lined, turn_places, turn_walk, with_conns}
use Rattle.pp_laws_turn.proofs.Lined.{fewer_conns, more_conns}
use Rattle.pp_laws_turn.proofs.Pieces.{bad_head-keeps, bad_response-keeps, ended-keeps, finish-keeps}
use Rattle.pp_laws_turn.proofs.Rows.{drop_chunk-keeps, enter-named, forget-keeps, idle_alone, rows_mapped}
use Rattle.pp_laws_turn.proofs.Same.{said_by-same}
use Rattle.pp_laws_turn.proofs.Steps.{drop_unseen-keeps, placing-keeps, rested-keeps, tick-keeps, touch-keeps}

end_if_empty-turn : (k : Conn) (e : Exchange) (a : Answer) (s : State) → Holds Turn s → Holds Turn (end_if_empty k e a s)
unfolding end_if_empty
end_if_empty-turn k e a s h = by_outcome (body_of a.rule []).outcome (λ rest. finish-keeps turn_walk k e a s h) h h

begin_answer-turn : (k : Conn) (e : Exchange) (head : Response) (rule : BodyRule) (s : State) → IsShort (key_of e) → Holds Turn s → Holds Turn (begin_answer k e head rule s)
unfolding begin_answer
begin_answer-turn k e head rule s short h =
    end_if_empty-turn k e (answer_with e head rule) _ (by_aim-named turn_walk e head rule _ short (on_conn-keeps turn_walk k.number (answered_by (answer_with e head rule)) s (λ j. same_conn _ j refl refl refl) h))

answer_for-turn : (k : Conn) (e : Exchange) (head : Response) (s : State) → IsShort (key_of e) → Holds Turn s → Holds Turn (answer_for k e head s)
unfolding answer_for
answer_for-turn k e head s short h = when (is_wrong_head e head) (bad_head-keeps turn_walk k s h) (by_rule (rule_of (asks_head e) head.status head.fields))
  where
    by_rule : (read : Result BodyRule ResponseFault) → Holds Turn (elim read as (λ c. State) [ Ok rule ↦ begin_answer k e head rule s | Err fault ↦ bad_head k s ])
    by_rule (Ok rule) = begin_answer-turn k e head rule s short h
    by_rule (Err fault) = bad_head-keeps turn_walk k s h

-- the kept row of its key comes into memory for it
bring_row-turn : (e : Exchange) (head : Response) (s : State) → IsShort (key_of e) → Holds Turn s → Holds Turn (bring_row e head s)
unfolding bring_row
bring_row-turn e head s short h = when (is_readable e head) (enter-named turn_walk.rows (key_of e) true s short h) h

-- the first of a line has the key of its target
first_short : (s : State) (k : Conn) (e : Exchange) → front_of_line s k ≡ Some e → Holds Turn s → IsShort (key_of e)
first_short s k e first h = key_short e.head.target e.key ((facts_of h).once e (by k.line first)).key
  where
    by : (line : List ℕ) → (elim line as (λ c. Option Exchange) [ [] ↦ None | n ∷ ns ↦ exchange s n ]) ≡ Some e → IsIn e s.exchanges
    by [] is = absurd (cc is)
    by (n ∷ ns) is = (in_find (is_exchange n) e s.exchanges is).0

pub head_came-turn : (k : Conn) (head : Response) (s : State) → Holds Turn s → Holds Turn (head_came k head s)
unfolding head_came
head_came-turn k head s h = each_so (front_of_line s k) (λ none. close_conn-keeps turn_walk false k s h) (λ e first. let short : IsShort (key_of e) = first_short s k e first h in answer_for-turn k e head _ short (bring_row-turn e head s short h))

piece_when : (t : Bool) (p q : Piece) → Holds Turn p.state → Holds Turn q.state → Holds Turn (elim t as (λ c. Piece) [ true ↦ p | false ↦ q ]).state
piece_when true p q hp hq = hp
piece_when false p q hp hq = hq

with_unread-turn : (k : Conn) (bytes : Bytes) (s : State) → Holds Turn s → Holds Turn (on_conn k.number (with_unread bytes) s)
with_unread-turn k bytes s h = on_conn-keeps turn_walk k.number (with_unread bytes) s (λ j. same_conn _ j refl refl refl) h

head_piece_by : (k : Conn) (bytes : Bytes) (s : State) (read : Read Response) → Holds Turn s
    → Holds Turn (elim read as (λ c. Piece) [
      | More ↦ record { state = on_conn k.number (with_unread bytes) s; rest = [] }
      | TooLong ↦ record { state = bad_head k s; rest = [] }
      | NoHead ↦ record { state = bad_head k s; rest = [] }
      | Whole head ↦ elim (is_interim head.status) as (λ c. Piece) [
        | true ↦ record { state = on_conn k.number (with_unread []) s; rest = drop head.length bytes }
        | false ↦ record { state = head_came k head s; rest = drop head.length bytes }
      ]
    ]).state
head_piece_by k bytes s More h = with_unread-turn k bytes s h
head_piece_by k bytes s TooLong h = bad_head-keeps turn_walk k s h
head_piece_by k bytes s NoHead h = bad_head-keeps turn_walk k s h
head_piece_by k bytes s (Whole head) h = piece_when (is_interim head.status) _ _ (with_unread-turn k [] s h) (head_came-turn k head s h)

head_piece-turn : (k : Conn) (bytes : Bytes) (s : State) → Holds Turn s → Holds Turn (head_piece k bytes s).state
head_piece-turn k bytes s h = piece_when (is_early s k) _ _ (close_conn-keeps turn_walk true k s h) (head_piece_by k (k.unread ++ bytes) s (response_at (k.unread ++ bytes)) h)

-- ---- bodies

note_own-turn : (e : Exchange) (a : Answer) (at : ℕ) (bytes : Bytes) (s : State) → Holds Turn s → Holds Turn (note_own e a at bytes s)
unfolding note_own
note_own-turn e a at bytes s h = when (is_empty bytes) h (holds (facts_of h))

note_sent-turn : (e : Exchange) (a : Answer) (at : ℕ) (bytes : Bytes) (s : State) → Holds Turn s → Holds Turn (note_sent e a at bytes s)
unfolding note_sent
note_sent-turn e a at bytes s h = by_aim_of e.aim h (note_own-turn e a at bytes s h) (λ v from to. note_own-turn e a at bytes s h)

join-turn : (b : Bound) (bytes : Bytes) (s : State) → Holds Turn s → Holds Turn (join b bytes s)
unfolding join note_use
join-turn b bytes s h = each_of (joined_one b bytes s) h (λ x. holds (facts_of h))

moved_same : (m : ℕ) (e : Exchange) → SameAsk (moved_on m e) e
moved_same m e = by (bound_of e)
  where
    by : (o : Option Bound) → SameAsk (elim o as (λ c. Exchange) [ None ↦ e | Some b ↦ record e { body = Joining (record b { next = b.next + m }) } ]) e
    by None = same_ask e e refl refl refl refl refl refl (λ is. is)
    by (Some b) = same_ask _ e refl refl refl refl refl refl (λ is. is)

join_bound-turn : (e : Exchange) (bytes : Bytes) (s : State) → Holds Turn s → Holds Turn (join_bound e bytes s)
unfolding join_bound
join_bound-turn e bytes s h = each_of (bound_of e) h (λ b. on_exchange-keeps turn_walk e.number (moved_on (length bytes)) _ (moved_same (length bytes)) (join-turn b bytes s h))

pub deliver-turn : (e : Exchange) (a : Answer) (at : ℕ) (bytes : Bytes) (s : State) → Holds Turn s → Holds Turn (deliver e a at bytes s)
unfolding deliver
deliver-turn e a at bytes s h = pour-keeps turn_walk e (poured bytes) _ (join_bound-turn e bytes _ (note_sent-turn e a at bytes s h))

body_piece_by : (k : Conn) (a : Answer) (e : Exchange) (bytes : Bytes) (t : State) (outcome : Outcome) → Holds Turn t
    → Holds Turn (elim outcome as (λ c. Piece) [
      | Going ↦ record { state = on_conn k.number (λ i. record i { answer = Some (record a { raw = a.raw ++ bytes }) }) t; rest = [] }
      | Bad ↦ record { state = bad_response k t; rest = [] }
      | Done rest ↦ record { state = finish k e a t; rest = rest }
    ]).state
body_piece_by k a e bytes t Going h = on_conn-keeps turn_walk k.number (λ i. record i { answer = Some (record a { raw = a.raw ++ bytes }) }) t (λ j. same_conn _ j refl refl refl) h
body_piece_by k a e bytes t Bad h = bad_response-keeps turn_walk k t h
body_piece_by k a e bytes t (Done rest) h = finish-keeps turn_walk k e a t h

body_piece-turn : (k : Conn) (a : Answer) (bytes : Bytes) (s : State) → Holds Turn s → Holds Turn (body_piece k a bytes s).state
body_piece-turn k a bytes s h = by (front_of_line s k)
  where
    by : (front : Option Exchange) → Holds Turn (elim front as (λ c. Piece) [ None ↦ record { state = close_conn false k s; rest = [] } | Some e ↦ body_piece_of k a e bytes s ]).state
    by None = close_conn-keeps turn_walk false k s h
    by (Some e) =
        let at : ℕ = length (payload_of a) in
        let fresh : Bytes = drop at (body_of a.rule (a.raw ++ bytes)).payload in
        body_piece_by k a e bytes (deliver e a at fresh s) (body_of a.rule (a.raw ++ bytes)).outcome (deliver-turn e a at fresh s h)

pub next_piece-turn : (k : Conn) (bytes : Bytes) (s : State) → Holds Turn s → Holds Turn (next_piece k bytes s).state
next_piece-turn k bytes s h = by k.answer
  where
    by : (answer : Option Answer) → Holds Turn (elim answer as (λ c. Piece) [ Some a ↦ body_piece k a bytes s | None ↦ head_piece k bytes s ]).state
    by None = head_piece-turn k bytes s h
    by (Some a) = body_piece-turn k a bytes s h

-- ---- the read

pub got-turn : (more n : ℕ) (bytes : Bytes) (s : State) → Holds Turn s → Holds Turn (got more n bytes s)
unfolding got
got-turn zero n bytes s h = h
got-turn (suc more) n bytes s h = each_of (conn s n) h (λ k. when (k.is_closing || is_empty bytes) h (got-turn more n (next_piece k bytes s).rest (next_piece k bytes s).state (next_piece-turn k bytes s h)))

-- ---- phases

late_free : (p : Phase) → is_late p ≡ true → p ≡ Handling → ⊥
late_free p late is = let both : true ≡ false = sym late ∙ ap is_late is in cc both

-- where nothing is owed any more, or it is one in which what is owed is done
phased : (p : Phase) (o : Owed) (s : State) → (is_free o ≡ false → p ≡ Handling) → (is_late p ≡ false → is_late s.phase ≡ false) → Holds Turn s → Holds Turn (record s { phase = p; owed = o })
phased p o s owes early h = let f = facts_of h in holds (record {
  owes = owes;
  given = f.given;
  source = f.source;
  news = λ c x off i going j new is. f.news c x (early off) i going j new is;
  one = f.one;
  goes = f.goes;
  fresh = f.fresh;
  lined = f.lined;
  bodied = f.bodied;
  once = f.once;
  made = f.made;
  short = f.short;
})

free_so : (o : Owed) → is_free o ≡ true → is_free o ≡ false → ⊥
free_so o is isnt = let both : true ≡ false = sym is ∙ isnt in cc both

in_phase-turn : (p : Phase) (s : State) → is_free s.owed ≡ true → (is_late p ≡ false → is_late s.phase ≡ false) → Holds Turn s → Holds Turn (in_phase p s)
in_phase-turn p s free early h = phased p s.owed s (λ isnt. absurd (free_so s.owed free isnt)) early h

-- behind a phase that is done nothing is owed
freed : (s : State) → is_done s ≡ true → Holds Turn s → is_free s.owed ≡ true
freed s done h = by (is_free s.owed) refl
  where
    by : (t : Bool) → is_free s.owed ≡ t → t ≡ true
    by true is = refl
    by false isnt = let both : true ≡ false = sym done ∙ (ap (λ (p : Phase). is_done_with p s) ((facts_of h).owes isnt) ∙ isnt) in absurd (cc both)

behind-turn : (phase : Phase) (s : State) → s.phase ≡ phase → is_free s.owed ≡ true → Holds Turn s → Holds Turn (behind phase s)
behind-turn Before s is free h = h
behind-turn IsWoken s is free h = h
behind-turn IsConfigured s is free h = h
behind-turn IsRooted s is free h = h
behind-turn IsListed s is free h = h
behind-turn IsListening s is free h = h
behind-turn IsStuck s is free h = h
behind-turn Awaiting s is free h = h
behind-turn Handling s is free h = in_phase-turn Evicting s free (λ off. ap is_late is) h
behind-turn Evicting s is free h = give_up_asks-keeps turn_walk _ (in_phase-turn Keeping s free (λ off. absurd (cc off)) h)
behind-turn Keeping s is free h = in_phase-turn Deciding s free (λ off. absurd (cc off)) h
behind-turn Deciding s is free h = in_phase-turn Following s free (λ off. absurd (cc off)) h
behind-turn Following s is free h = fill-keeps turn_walk turn_begins _ (give_up_asks-keeps turn_walk _ (drop_unseen-keeps turn_walk _ (in_phase-turn Connecting s free (λ off. absurd (cc off)) h)))
behind-turn Connecting s is free h = placing-keeps turn_places turn_lined _ (in_phase-turn DecidingAgain s free (λ off. absurd (cc off)) h)
behind-turn DecidingAgain s is free h = h

pub next-turn : (s : State) → is_done s ≡ true → Holds Turn s → Holds Turn (next s)
unfolding next
next-turn s done h = behind-turn s.phase s refl (freed s done h) h

come-turn : (stops : State → Bool) (ps : List Phase) (s : State) → Holds Turn s → Holds Turn (come stops ps s)
unfolding come
come-turn stops [] s h = h
come-turn stops (p ∷ ps) s h = come-turn stops ps _ (when (is_at p s) (when (stops s) h (when_so (is_done s) (λ done. next-turn s done h) (λ isnt. h))) h)

pub come_to-turn : (phase : Phase) (s : State) → Holds Turn s → Holds Turn (come_to phase s)
unfolding come_to
come_to-turn phase s h = come-turn (is_at phase) phases s h

pub come_to_decide-turn : (s : State) → Holds Turn s → Holds Turn (come_to_decide s)
unfolding come_to_decide
come_to_decide-turn s h = come-turn decides phases s h

-- ---- the phase, and what is owed, stay while clients, exchanges and rows change

abbrev AreStill : Phase → Owed → View → Type 0
AreStill p o v = (v.phase ≡ p) × (v.owed ≡ o)

still_left : (p : Phase) (o : Owed) (ns : List ℕ) (s : State) → AreStill p o (view s) → AreStill p o (view (each_exchange leave_one ns s))
unfolding each_exchange leave_one end_exchange on_exchange
still_left p o [] s h = h
still_left p o (n ∷ ns) s h = still_left p o ns _ (by (exchange s n))
  where
    one : (e : Exchange) (t : Bool) → AreStill p o (view (elim t as (λ c. State) [ true ↦ end_exchange e.number s | false ↦ on_exchange e.number left_alone s ]))
    one e true = h
    one e false = h

    by : (d : Option Exchange) → AreStill p o (view (elim d as (λ c. State) [ None ↦ s | Some e ↦ leave_one e s ]))
    by None = h
    by (Some e) = one e (e.asked == 0)

still_walk : (p : Phase) (o : Owed) → Walk (AreStill p o)
unfolding on_client
still_walk p o = record {
  clients = λ f same_one v h. h;
  asks = λ f v same_one h. h;
  left = λ test v h. h;
  over = λ test v h. h;
  conns = λ f lesser v h. h;
  rows = λ xs next v from h. h;
  leaves = λ n f moves v h. h;
  closes = λ n f number closing body brought s h. still_left p o (exchanges_of n s) (on_client n f s) h;
  tells = λ test b v there h. h;
}

-- ---- what is permitted

pub gate : (a b : Bool) → (elim a as (λ c. Bool) [ true ↦ b | false ↦ false ]) ≡ true → (a ≡ true) × (b ≡ true)
gate true b is = (refl, is)
gate false b is = absurd (cc is)

unhampered : (made : Option ℕ) (t : Bool) → (elim made as (λ c. Bool) [ Some who ↦ false | None ↦ t ]) ≡ true → t ≡ true
unhampered (Some who) t is = absurd (cc is)
unhampered None t is = is

at_phase : (p : Phase) (s : State) → is_at p s ≡ true → s.phase ≡ p
at_phase p s at = sym (same_phase p s.phase at)

-- in a phase of the later ones nothing is owed
late_owes : (s : State) → is_late s.phase ≡ true → Holds Turn s → is_free s.owed ≡ true
late_owes s late h = by (is_free s.owed) refl
  where
    by : (t : Bool) → is_free s.owed ≡ t → t ≡ true
    by true is = refl
    by false isnt = absurd (late_free s.phase late ((facts_of h).owes isnt))

decides_late : (s : State) → decides s ≡ true → is_late s.phase ≡ true
decides_late s is = by (is_at Deciding s) refl is
  where
    by : (t : Bool) → is_at Deciding s ≡ t → (elim t as (λ c. Bool) [ true ↦ not (is_done s) | false ↦ is_at DecidingAgain s ]) ≡ true → is_late s.phase ≡ true
    by true at on = ap is_late (at_phase Deciding s at)
    by false at on = ap is_late (at_phase DecidingAgain s on)

-- ---- decisions

pub deciding-turn : (s : State) → decides (come_to_decide s) ≡ true → Holds Turn s → Holds Turn (deciding s)
unfolding deciding
deciding-turn s on h =
    let t = come_to_decide-turn s h in
    in_phase-turn Deciding (come_to_decide s) (late_owes (come_to_decide s) (decides_late (come_to_decide s) on) t) (λ off. absurd (cc off)) t

-- ---- events

pub event-turn : (s : State) → is_late s.phase ≡ false → Holds Turn s → Holds Turn (event s)
unfolding event
event-turn s early h = regained-keeps turn_walk _ (phased Handling s.owed s (λ isnt. refl) (λ off. early) h)

pub paid-turn : (s : State) → Holds Turn s → Holds Turn (paid s)
unfolding paid
paid-turn s h = regained-keeps turn_walk _ (phased s.phase Free s (λ isnt. absurd (cc isnt)) (λ off. off) h)

opened-turn : (n : ℕ) (s : State) → Holds Turn s → Holds Turn (opened n s)
unfolding opened
opened-turn n s h = holds (record {
  owes = f.owes;
  given = f.given;
  source = λ c id i going is. source_by c id (in_push c s.clients new i) going is;
  news = λ c x early i going j new_one is. news_by c x early (in_push c s.clients new i) going j new_one is;
  one = f.one;
  goes = λ e m i is off. longer e m (f.goes e m i is off);
  fresh = f.fresh;
  lined = f.lined;
  bodied = λ c i. bodied_by c (in_push c s.clients new i);
  once = f.once;
  made = λ c id i is. made_by c id (in_push c s.clients new i) is;
  short = f.short;
})
  where
    new : Client
    new = new_client n s.clock

    f : Turn (view s)
    f = facts_of h

    none : (c : Client) (id : ℕ) → c ≡ new → source_in c.stage ≡ Some id → ⊥
    none c id eq is = let both : None ≡ Some id = sym (ap (λ (x : Client). source_in x.stage) eq) ∙ is in cc both

    source_by : (c : Client) (id : ℕ) → IsIn c s.clients ⊎ (c ≡ new) → c.is_closing ≡ false → source_in c.stage ≡ Some id → IsIn id (map instance_id s.instances)
    source_by c id (inl i) going is = f.source c id i going is
    source_by c id (inr eq) going is = absurd (none c id eq is)

    news_by : (c : Client) (x : Instance) → is_late s.phase ≡ false → IsIn c s.clients ⊎ (c ≡ new) → c.is_closing ≡ false → IsIn x s.instances → x.is_new ≡ true → source_in c.stage ≡ Some x.id → ⊥
    news_by c x early (inl i) going j new_one is = f.news c x early i going j new_one is
    news_by c x early (inr eq) going j new_one is = none c x.id eq is

    bodied_by : (c : Client) → IsIn c s.clients ⊎ (c ≡ new) → IsHeard c
    bodied_by c (inl i) = f.bodied c i
    bodied_by c (inr eq) = subst IsHeard (sym eq) (λ r is. absurd (cc is))

    made_by : (c : Client) (id : ℕ) → IsIn c s.clients ⊎ (c ≡ new) → joined_in c.brought ≡ Some id → id < s.next_instance
    made_by c id (inl i) is = f.made c id i is
    made_by c id (inr eq) is = let both : None ≡ Some id = sym (ap (λ (x : Client). joined_in x.brought) eq) ∙ is in absurd (cc both)

    longer : (e : Exchange) (m : ℕ) → Goes e m s.clients → Goes e m (s.clients ++ new ∷ [])
    longer e m g = record { client = g.client; there = in_front g.client s.clients (new ∷ []) g.there; number = g.number; at = g.at }

reached-turn : (n : ℕ) (s : State) → Holds Turn s → Holds Turn (reached n s)
unfolding reached
reached-turn n s h = touch-keeps turn_walk n _ (on_conn-keeps turn_walk n (λ k. record k { is_reached = true }) s (λ k. same_conn _ k refl refl refl) h)

owing-turn : (owed : Owed) (n : ℕ) (s : State) → is_late s.phase ≡ false → Holds Turn s → Holds Turn (event (owing owed n s))
unfolding owing event touch on_client on_conn
owing-turn owed n s early h = regained-keeps turn_walk _ (phased Handling owed (touch n s) (λ isnt. refl) (λ off. touched early) (touch-keeps turn_walk n s h))
  where
    touched : is_late s.phase ≡ false → is_late (touch n s).phase ≡ false
    touched is = is

said-turn : (c n : ℕ) (s : State) → Holds Turn s → Holds Turn (said c n s)
unfolding said
said-turn c n s h = each_of (client s c) h (λ x. end_replies-keeps turn_walk _ (on_client-keeps turn_walk c (said_by n) _ (said_by-same n) (use_said-keeps n x s h)))

pub gone-turn : (is_clean : Bool) (n : ℕ) (s : State) → Holds Turn s → Holds Turn (gone is_clean n s)
unfolding gone
gone-turn is_clean n s h = each_of (conn s n) h (λ k. end_replies-keeps turn_walk _ (ended-keeps turn_walk is_clean k s h))

-- ---- notes

pub take_decision-turn : (n : ℕ) (d : Decision) (s : State) → is_late s.phase ≡ true → ((c : Client) → client s n ≡ Some c → c.is_closing ≡ false) → Holds Turn s → Holds Turn (take_decision n d s)
unfolding take_decision
take_decision-turn n d s late going h =
    each_so (client s n) (λ none. h)
    (λ c found. regained-keeps turn_walk _ (holds (facts_of (decided-named turn_walk turn_begins turn_follows c d s (named_short c ((facts_of h).bodied c (in_find (is_client n) c s.clients found).0)) ((facts_of h).bodied c (in_find (is_client n) c s.clients found).0) (record { there = (in_find (is_client n) c s.clients found).0; going = going c found }) late h))))

-- who is decided for goes on
decided_going : (s : State) (c : Client) (n i : ℕ) (d : Decision) → due_of s c ≡ Some (Decide n i d) → (c.number ≡ n) × (c.is_closing ≡ false)
decided_going s c n i d is = by (due_cut s c) (due_decision s c) refl is
  where
    number : (m j : ℕ) (x : Decision) → Some (Decide m j x) ≡ Some (Decide n i d) → m ≡ n
    number m j x e = let same_due : Decide m j x ≡ Decide n i d = cc e in cc same_due

    going : (x : Decision) (closing stopped : Bool) (o : Option Decision) → (elim (closing || stopped) as (λ y. Option Decision) [ true ↦ None | false ↦ o ]) ≡ Some x → closing ≡ false
    going x true stopped o at = absurd (cc at)
    going x false stopped o at = refl

    by : (o : Option Cause) (p : Option Decision) → due_decision s c ≡ p
        → (elim o as (λ x. Option Due) [ Some cause ↦ Some (CutOff c.number cause) | None ↦ elim p as (λ x. Option Due) [ Some x ↦ Some (Decide c.number c.index x) | None ↦ None ] ]) ≡ Some (Decide n i d) → (c.number ≡ n) × (c.is_closing ≡ false)
    by (Some cause) p due at = absurd (cc at)
    by None None due at = absurd (cc at)
    by None (Some x) due at = (number c.number c.index x at, going x c.is_closing s.is_stopped (due_by_stage s c) due)

due_going : (s : State) (n i : ℕ) (d : Decision) → is_due_decision s (next_due s) n i d ≡ true → (c : Client) × IsIn c s.clients × (c.number ≡ n) × (c.is_closing ≡ false)
due_going s n i d is = by (next_due s) refl is
  where
    by : (o : Option Due) → next_due s ≡ o → is_due_decision s o n i d ≡ true → (c : Client) × IsIn c s.clients × (c.number ≡ n) × (c.is_closing ≡ false)
    by None none at = absurd (cc at)
    by (Some (CutOff m cause)) some at = absurd (cc at)
    by (Some (Decide m j x)) some at =
        let w = next_in s (Decide m j x) some in
        let v = decided_going s w.0 m j x w.2 in
        (w.0, w.1, v.0 ∙ same_number m n (first_holds (m == n) (j == i) (first_holds ((m == n) && (j == i)) (is_same_decision x d || (is_same_decision d (Refuse 500) && may_want_memory s n)) at)), v.1)

pub taken_going : {b : Since} (s : State) (n i : ℕ) (d : Decision) → Sound b s → permits_taken s n i d ≡ true → (c : Client) → client (deciding s) n ≡ Some c → c.is_closing ≡ false
unfolding deciding
taken_going s n i d so may c found =
    let t : State = come_to_decide s in
    let open_it = gate (decides t) (may_take t n i d) may in
    let w = due_going t n i d (first_holds (is_due_decision t (next_due t) n i d) (has_room_for t n d) open_it.1) in
    let r = in_find (is_client n) c t.clients found in
    let one : w.0 ≡ c = one_of client_number t.clients w.0 c (sound_facts (come_to_decide-sound s so)).callers.rise w.1 r.0 (w.2 ∙ sym (same_number c.number n r.1)) in
    subst (λ (x : Client). x.is_closing ≡ false) one w.3

-- and a body is left of its request where that is asked once
pub taken_bodied : (s : State) (n i : ℕ) (d : Decision) → permits_taken s n i d ≡ true → Holds Turn s → (c : Client) → client (deciding s) n ≡ Some c → IsHeard c
taken_bodied s n i d may h c found =
    let on = (gate (decides (come_to_decide s)) (may_take (come_to_decide s) n i d) may).0 in
    (facts_of (deciding-turn s on h)).bodied c (in_find (is_client n) c (deciding s).clients found).0

evicted-turn : (s : State) → Holds Turn s → Holds Turn (evicted s)
unfolding evicted
evicted-turn s h = each_of (due_victim s) h (λ place. drop_chunk-keeps place.0 place.1 s h)

pub refused_row-turn : (x : Instance) (s : State) → is_followed s x.id ≡ false → Holds Turn s → Holds Turn (refused_row x s)
unfolding refused_row
refused_row-turn x s none h =
    let told : State = record (forget x.id s) { clients = change (waits_for_row x.id) (λ c. record c { course = RowRefused }) (forget x.id s).clients } in
    holds (exchanges_changed-keeps turn_walk (brings_to x.id) dropping_body (view told) (λ e. same_ask _ e refl refl refl refl refl refl (λ is. is))
    (clients_changed-keeps turn_walk (waits_for_row x.id) (λ c. record c { course = RowRefused }) (view (forget x.id s)) (λ c. same_parts _ c refl refl refl refl refl (λ is. is)) (facts_of (forget-keeps turn_walk.rows x.id s none h))))

-- ---- a row that came in this turn is followed by nobody yet

-- before decisions none that goes on is answered from it
abbrev pub IsAlone : ℕ → State → Type 0
IsAlone id s = is_late s.phase ≡ false → IsFollowed id s.clients → ⊥

alone_when : (id : ℕ) (t : Bool) (x y : State) → (t ≡ true → IsAlone id x) → IsAlone id y → IsAlone id (elim t as (λ c. State) [ true ↦ x | false ↦ y ])
alone_when id true x y hx hy = hx refl
alone_when id false x y hx hy = hy

late_on : (p : Phase) → is_late (onward p) ≡ true → (id : ℕ) (t : State) → t.phase ≡ onward p → IsAlone id t
late_on p late id t is early = let both : true ≡ false = sym late ∙ sym (ap is_late is) ∙ early in absurd (cc both)

next-alone : (id : ℕ) (s : State) → IsAlone id s → IsAlone id (next s)
unfolding next
next-alone id s alone = by s.phase refl (next-phase s)
  where
    later : (p : Phase) → is_late (onward p) ≡ true → s.phase ≡ p → (next s).phase ≡ onward s.phase → IsAlone id (behind p s)
    later p late is on = late_on p late id (behind p s) (subst (λ (q : Phase). (behind q s).phase ≡ onward q) is on)

    by : (p : Phase) → s.phase ≡ p → (next s).phase ≡ onward s.phase → IsAlone id (behind p s)
    by Before is on = alone
    by IsWoken is on = alone
    by IsConfigured is on = alone
    by IsRooted is on = alone
    by IsListed is on = alone
    by IsListening is on = alone
    by IsStuck is on = alone
    by Awaiting is on = alone
    by Handling is on = λ early. alone (ap is_late is)
    by Evicting is on = later Evicting refl is on
    by Keeping is on = later Keeping refl is on
    by Deciding is on = later Deciding refl is on
    by Following is on = later Following refl is on
    by Connecting is on = later Connecting refl is on
    by DecidingAgain is on = alone

come-alone : (id : ℕ) (stops : State → Bool) (ps : List Phase) (s : State) → IsAlone id s → IsAlone id (come stops ps s)
unfolding come
come-alone id stops [] s h = h
come-alone id stops (p ∷ ps) s h =
    come-alone id stops ps _ (alone_when id (is_at p s) _ s (λ at. alone_when id (stops s) s _ (λ stop. h) (alone_when id (is_done s) (next s) s (λ done. next-alone id s h) h)) h)

come_to-alone : (id : ℕ) (p : Phase) (s : State) → IsAlone id s → IsAlone id (come_to p s)
unfolding come_to
come_to-alone id p s h = come-alone id (is_at p) phases s h

none_follows : (id : ℕ) (cs : List Client) → (IsFollowed id cs → ⊥) → list_any (follows id) cs ≡ false
none_follows id [] none = refl
none_follows id (c ∷ cs) none = by (follows id c) refl (none_follows id cs (λ w. none (w.0, inr w.1, w.2, w.3)))
  where
    reply_source : (stage : Stage) → is_some_with (λ (r : Reply). is_this id r.source) (elim stage as (λ x. Option Reply) [ Undecided ↦ None | Waiting ↦ None | Passing ↦ None | Answering r ↦ Some r ]) ≡ true → source_in stage ≡ Some id
    reply_source Undecided is = absurd (cc is)
    reply_source Waiting is = absurd (cc is)
    reply_source Passing is = absurd (cc is)
    reply_source (Answering r) is = of r.source is
      where
        of : (o : Option ℕ) → is_this id o ≡ true → o ≡ Some id
        of None at = absurd (cc at)
        of (Some m) at = ap (λ k. Some k) (same_number m id at)

    going : (t u : Bool) → (not t && u) ≡ true → (t ≡ false) × (u ≡ true)
    going true u is = absurd (cc is)
    going false u is = (refl, is)

    by : (t : Bool) → follows id c ≡ t → list_any (follows id) cs ≡ false → (t || list_any (follows id) cs) ≡ false
    by true is rest = let w = going c.is_closing (is_some_with (λ (r : Reply). is_this id r.source) (reply_of c)) is in absurd (none (c, inl refl, w.0, reply_source c.stage w.1))
    by false is rest = rest

-- how a row leaves
memory_by : (first none : Bool) (r decided : Option Instance) (x : Instance) → leaving_with first none r decided ≡ Some (ForMemory x) → (none ≡ true) × (r ≡ Some x) × (x.is_new ≡ true)
memory_by true none r decided x is = absurd (cc is)
memory_by false false r None x is = absurd (cc is)
memory_by false false r (Some y) x is = absurd (cc is)
memory_by false true None None x is = absurd (cc is)
memory_by false true None (Some y) x is = absurd (cc is)
memory_by false true (Some y) decided x is = by y.is_new refl decided is
  where
    one : Some (ForMemory y) ≡ Some (ForMemory x) → y ≡ x
    one e = let same_row : ForMemory y ≡ ForMemory x = cc e in cc same_row

    by : (t : Bool) → y.is_new ≡ t → (o : Option Instance)
        → (elim (elim t as (λ c. Option Instance) [ true ↦ Some y | false ↦ None ]) as (λ c. Option Leaving) [ Some z ↦ Some (ForMemory z) | None ↦ option_map BeforeDecision o ]) ≡ Some (ForMemory x) → (true ≡ true) × (Some y ≡ Some x) × (x.is_new ≡ true)
    by true new o at = (refl, ap (λ (z : Instance). Some z) (one at), subst (λ (z : Instance). z.is_new ≡ true) (one at) new)
    by false new None at = absurd (cc at)
    by false new (Some z) at = absurd (cc at)

decision_by : (first none : Bool) (r decided : Option Instance) (x : Instance) → leaving_with first none r decided ≡ Some (BeforeDecision x) → decided ≡ Some x
decision_by true none r decided x is = absurd (cc is)
decision_by false none r decided x is = by (elim none as (λ c. Option Instance) [ true ↦ if_so (λ y. y.is_new) r | false ↦ None ]) decided is
  where
    by : (o p : Option Instance) → (elim o as (λ c. Option Leaving) [ Some z ↦ Some (ForMemory z) | None ↦ option_map BeforeDecision p ]) ≡ Some (BeforeDecision x) → p ≡ Some x
    by (Some z) p at = absurd (cc at)
    by None None at = absurd (cc at)
    by None (Some y) at = let e : BeforeDecision y ≡ BeforeDecision x = cc at in let same_row : y ≡ x = cc e in ap (λ (z : Instance). Some z) same_row

-- it is idle where the decision comes
decision_idle : (s : State) (key : Bytes) (x : Instance) → before_decision s key ≡ Some x → idle_row (come_to_decide s) ≡ Some x
decision_idle s key x is = by (decides (come_to_decide s)) is
  where
    so_it : (test : Instance → Bool) (o : Option Instance) → if_so test o ≡ Some x → o ≡ Some x
    so_it test None at = absurd (cc at)
    so_it test (Some y) at = of (test y) at
      where
        of : (t : Bool) → (elim t as (λ c. Option Instance) [ true ↦ Some y | false ↦ None ]) ≡ Some x → Some y ≡ Some x
        of true on = on
        of false on = absurd (cc on)

    room : (t : Bool) → (elim t as (λ c. Option Instance) [ true ↦ if_so (λ y. bytes_eq y.key key && not y.is_new) (idle_row (come_to_decide s)) | false ↦ None ]) ≡ Some x → idle_row (come_to_decide s) ≡ Some x
    room true at = so_it (λ y. bytes_eq y.key key && not y.is_new) (idle_row (come_to_decide s)) at
    room false at = absurd (cc at)

    by : (t : Bool) → (elim t as (λ c. Option Instance) [ true ↦ makes_room (come_to_decide s) key | false ↦ None ]) ≡ Some x → idle_row (come_to_decide s) ≡ Some x
    by true at = room (forgets_next (come_to_decide s) (first_due (come_to_decide s))) at
    by false at = absurd (cc at)

leave_memory-turn : (key : Bytes) (how : Leaving) (s : State) → leaving_as s key ≡ Some how → Holds Turn s → Holds Turn (leave_memory how s)
unfolding leave_memory
leave_memory-turn key ForAnother s is h = holds (facts_of (come_to-turn Evicting s h))
leave_memory-turn key (ForMemory x) s is h = refused_row-turn x _ (none_follows x.id t.clients (come_to-alone x.id Evicting s alone early)) (come_to-turn Evicting s h)
  where
    t : State
    t = come_to Evicting s

    found : (may_in Evicting (λ u. is_empty u.forgotten) s ≡ true) × (row s key ≡ Some x) × (x.is_new ≡ true)
    found = memory_by (may_in Evicting (λ u. is_first key u.forgotten) s) (may_in Evicting (λ u. is_empty u.forgotten) s) (row s key) (before_decision s key) x is

    early : is_late t.phase ≡ false
    early = ap is_late (at_phase Evicting t (gate (is_at Evicting t) (is_empty t.forgotten) found.0).0)

    alone : IsAlone x.id s
    alone first w = (facts_of h).news w.0 x first w.1 w.2 (in_find (is_row_of key) x s.instances found.1).0 found.2 w.3
leave_memory-turn key (BeforeDecision x) s is h =
    let idle = decision_idle s key x (decision_by (may_in Evicting (λ u. is_first key u.forgotten) s) (may_in Evicting (λ u. is_empty u.forgotten) s) (row s key) (before_decision s key) x is) in
    holds (facts_of (forget-keeps turn_walk.rows x.id _ (idle_alone (come_to_decide s) x idle) (come_to_decide-turn s h)))

forgotten_by-turn : (key : Bytes) (s : State) → Holds Turn s → Holds Turn (forgotten_by key s)
unfolding forgotten_by
forgotten_by-turn key s h = each_so (leaving_as s key) (λ none. h) (λ how is. leave_memory-turn key how s is h)

load-turn : (key : Bytes) (i : ℕ) (s : State) → Holds Turn s → Holds Turn (load key i s)
unfolding load load_from note_use
load-turn key i s h = each_of (row s key) h (λ x. each_of (kept_row s key) h (λ e. holds (facts_of h)))

-- ---- the disk, and the opening

begun_op-turn : (op : DiskOp) (s : State) → Holds Turn s → Holds Turn (begun_op op s)
unfolding begun_op
begun_op-turn op s h = when (is_opening s) (begin_in_opening-keeps op s h) (begin_in_turn-keeps op _ (come_to-turn Keeping s h))

ended_op-turn : (op : DiskOp) (ok : Bool) (s : State) → Holds Turn s → Holds Turn (ended_op op ok s)
unfolding ended_op
ended_op-turn op true s h = end_op-keeps op true s h
ended_op-turn op false s h = lose_in_opening-keeps s.agenda.name _ (end_op-keeps op false s h)

unread-turn : (name : Bytes) (s : State) → Holds Turn s → Holds Turn (unread name s)
unfolding unread
unread-turn name s h = paid-turn _ (lose_in_opening-keeps name _ (close_name-keeps name s h))

-- nothing is owed before a turn
record IsEarly (s : State) : Type 0 where
  free : is_free s.owed ≡ true
  early : is_late s.phase ≡ false

opened-by : (p : Phase) (s : State) → IsEarly s → Holds Turn s → Holds Turn (record s { phase = p })
opened-by p s e h = in_phase-turn p s e.free (λ off. e.early) h

with_settings-turn : (o : Option Settings) (s : State) → IsEarly s → Holds Turn s → Holds Turn (with_settings o s)
unfolding with_settings
with_settings-turn None s e h = opened-by IsStuck s e h
with_settings-turn (Some c) s e h = holds (facts_of (opened-by IsConfigured s e h))

begun-turn : (s : State) → IsEarly s → Holds Turn s → Holds Turn (begun s)
unfolding begun
begun-turn s e h = by (are_texts s.term)
  where
    by : (t : Bool) → Holds Turn (elim t as (λ c. State) [
      | false ↦ with_settings None s
      | true ↦ elim (names_file s.term) as (λ c. State) [ true ↦ record s { phase = IsWoken } | false ↦ with_settings (settings_in (reading_of s.term.words None)) s ]
    ])
    by false = with_settings-turn None s e h
    by true = when (names_file s.term) (opened-by IsWoken s e h) (with_settings-turn (settings_in (reading_of s.term.words None)) s e h)

pub start-turn : (terms : List Term) → Holds Turn (start terms)
start-turn terms = holds (record {
  owes = λ isnt. absurd (cc isnt);
  given = λ x i. absurd i;
  source = λ c id i. absurd i;
  news = λ c x early i. absurd i;
  one = λ d e c i. absurd i;
  goes = λ e n i. absurd i;
  fresh = λ e i. absurd i;
  lined = record {
    apart = λ j k i. absurd i;
    heads = λ d e i. absurd i;
    given = λ e i. absurd i;
    asked = λ k n i. absurd i;
    few = λ k i. absurd i;
    alone = λ k e i. absurd i;
  };
  bodied = λ c i. absurd i;
  once = λ e i. absurd i;
  made = λ c id i. absurd i;
  short = λ x i. absurd i;
})

woken-turn : (image : Files) (s : State) → Holds Turn (woken image s)
unfolding woken
woken-turn image s = begun-turn _ (record { free = refl; early = refl }) (holds (facts_of (start-turn (terms_behind s.terms))))

early_at : (p : Phase) (s : State) → is_late p ≡ false → (p ≡ Handling → ⊥) → is_at p s ≡ true → Holds Turn s → IsEarly s
early_at p s early isnt at h = record { free = by (is_free s.owed) refl; early = ap is_late (at_phase p s at) ∙ early }
  where
    by : (t : Bool) → is_free s.owed ≡ t → t ≡ true
    by true is = refl
    by false owes = absurd (isnt (sym (at_phase p s at) ∙ (facts_of h).owes owes))

opened_to-turn : (phase : Phase) (ok : Bool) (s : State) → IsEarly s → Holds Turn s → Holds Turn (opened_to phase ok s)
unfolding opened_to stuck
opened_to-turn phase true s e h = opened-by phase s e h
opened_to-turn phase false s e h = holds (facts_of (opened-by IsStuck s e h))

configured-turn : (text : Option Bytes) (s : State) → IsEarly s → Holds Turn s → Holds Turn (configured text s)
unfolding configured stuck
configured-turn None s e h = holds (facts_of (opened-by IsStuck s e h))
configured-turn (Some text) s e h = with_settings-turn (settings_in (reading_of s.term.words (Some text))) s e h

-- ---- a client is shut

pub shut-turn : (n : ℕ) (s : State) → Holds Turn s → Holds Turn (shut n s)
unfolding shut
shut-turn n s h = holds (record {
  owes = closed.owes;
  given = closed.given;
  source = λ c id i going is. closed.source c id (in_filter (λ x. not (is_client n x)) c (close_client n false s).clients i).0 going is;
  news = λ c x early i going j new is. closed.news c x early (in_filter (λ x. not (is_client n x)) c (close_client n false s).clients i).0 going j new is;
  one = closed.one;
  goes = λ e m i is off. stays e m i is (closed.goes e m i is off);
  fresh = closed.fresh;
  lined = closed.lined;
  bodied = λ c i. closed.bodied c (in_filter (λ x. not (is_client n x)) c (close_client n false s).clients i).0;
  once = closed.once;
  made = λ c id i is. closed.made c id (in_filter (λ x. not (is_client n x)) c (close_client n false s).clients i).0 is;
  short = closed.short;
})
  where
    closed : Turn (view (close_client n false s))
    closed = facts_of (close_client-keeps turn_walk n false s h)

    stays : (e : Exchange) (m : ℕ) → IsIn e (close_client n false s).exchanges → e.asker ≡ Some m → Goes e m (close_client n false s).clients → Goes e m (filter (λ x. not (is_client n x)) (close_client n false s).clients)
    stays e m i is g = record {
      client = g.client;
      there = in_filter_of (λ x. not (is_client n x)) g.client (close_client n false s).clients g.there (ap not (differs g.client.number n (λ eq. closed_alone n false s e i (is ∙ ap (λ k. Some k) (sym g.number ∙ eq)))));
      number = g.number;
      at = g.at;
    }

-- ---- places

dialled_by : (n : ℕ) (host : Bytes) (port : ℕ) (s : State) (pause : Pause) → ((j : Conn) → IsIn j s.conns → j.number ≡ n → ⊥) → ((e : Exchange) → pause ≡ WaitsDial e → e.number < s.next_exchange) → Holds Turn s
    → Holds Turn (elim pause as (λ c. State) [
      | AllPlaced ↦ s
      | WaitsDrop k e ↦ s
      | WaitsDial e ↦ put_on e.number n (record s { conns = s.conns ++ new_conn n host port s.clock ∷ []; top = n })
    ])
dialled_by n host port s AllPlaced new given h = h
dialled_by n host port s (WaitsDrop k e) new given h = h
dialled_by n host port s (WaitsDial e) new given h =
    holds (turn_places e.number n (record s { conns = s.conns ++ k ∷ []; top = n }) (record { given = given e refl; each = λ j i is. inl (empty j (in_push j s.conns k i) is) })
    (with_conns None (s.conns ++ k ∷ []) (view s) (more_conns k s.conns s.exchanges s.next_exchange refl new (facts_of h).lined) (facts_of h)))
  where
    k : Conn
    k = new_conn n host port s.clock

    empty : (j : Conn) → IsIn j s.conns ⊎ (j ≡ k) → j.number ≡ n → j.line ≡ []
    empty j (inl i) is = absurd (new j i is)
    empty j (inr eq) is = ap (λ (x : Conn). x.line) eq

-- its number is new
pub dialled-turn : {b : Since} (n : ℕ) (host : Bytes) (port : ℕ) (s : State) → Sound b s → (placing s).state.top < n → Holds Turn s → Holds Turn (dialled n host port (placing s))
unfolding dialled
dialled-turn {b} n host port s so above h = dialled_by n host port (placing s).state (placing s).pause new (λ e is. (placing-dial s so e is).given) (placing-keeps turn_places turn_lined s h)
  where
    f : FactsOf b (placing s).state
    f = sound_facts (placing-sound s so)

    new : (j : Conn) → IsIn j (placing s).state.conns → j.number ≡ n → ⊥
    new j i is = let le : j.number ≤ (placing s).state.top = f.lines.given j i in omega arith

pub refused_dial-turn : (e : Exchange) (s : State) → Holds Turn s → Holds Turn (refused_dial e s)
unfolding refused_dial
refused_dial-turn e s h = when (may_ask_again s e.number) h (fill-keeps turn_walk turn_begins _ (end_exchange-keeps turn_walk e.number _ h))

undialled-turn : (p : Placement) → Holds Turn p.state → Holds Turn (undialled p)
unfolding undialled
undialled-turn p h = by_pause p.pause h (λ k e. h) (λ e. refused_dial-turn e _ (lose_attempt-keeps turn_walk e _ (holds (facts_of h))))

out-turn : (n : ℕ) (s : State) → Holds Turn s → Holds Turn (out n s)
unfolding out
out-turn n s h = holds (with_conns None (filter (λ k. not (is_conn n k)) s.conns) (view s) (fewer_conns (λ k. not (is_conn n k)) s.conns s.exchanges s.next_exchange (facts_of h).lined) (facts_of h))

dropped-turn : (n : ℕ) (s : State) → Holds Turn s → Holds Turn (dropped n s)
unfolding dropped
dropped-turn n s h = each_of (conn s n) h (λ k. when k.is_closing (out-turn n s h) (out-turn n _ (placing-keeps turn_places turn_lined s h)))

-- ---- all

pub rest_with-turn : (w : Wants) (s : State) → Holds Turn s → Holds Turn (rest_with w s)
unfolding rest_with
rest_with-turn w s h = holds (record {
  owes = λ isnt. absurd (cc isnt);
  given = f.given;
  source = f.source;
  news = λ c x early i going j new is. let r = in_map rested_instance x s.instances j in let both : false ≡ true = sym (ap (λ (y : Instance). y.is_new) r.is) ∙ new in absurd (cc both);
  one = f.one;
  goes = f.goes;
  fresh = f.fresh;
  lined = f.lined;
  bodied = f.bodied;
  once = f.once;
  made = f.made;
  short = f.short;
})
  where
    v : View
    v = record (view s) { clients = map (rested_client s) s.clients; conns = map (rested_conn s w) s.conns; exchanges = map (rested_exchange s) s.exchanges }

    f : Turn (record v { instances = map rested_instance s.instances; next_instance = s.next_instance })
    f = turn_walk.rows (map rested_instance s.instances) s.next_instance v (rows_mapped v rested_instance (λ x. record { id = refl; key = refl; is_new = λ is. absurd (cc is); retired = λ is. is })) (rested-keeps turn_walk w s h)

pub ending-turn : (s : State) → Holds Turn s → Holds Turn (ending s)
unfolding ending
ending-turn s h = begin_replies-keeps turn_walk _ (come_to-turn DecidingAgain s h)

-- ---- what is permitted

parts3 : (a b c : Bool) → (a && (b || c)) ≡ true → (b ≡ false → c ≡ true)
parts3 true true c is isnt = absurd (cc isnt)
parts3 true false c is isnt = is
parts3 false b c is isnt = absurd (cc is)

-- a connection breaks where an event is awaited, or what is owed of it is due
broke_early : (s : State) (n : ℕ) → permits_broke s n ≡ true → Holds Turn s → is_late s.phase ≡ false
broke_early s n is h = by (is_awaiting s) refl
  where
    owed_so : (o : Owed) → (is_reading o n || is_writing o n) ≡ true → is_free o ≡ false
    owed_so Free at = absurd (cc at)
    owed_so (ReadOf m) at = refl
    owed_so (WriteTo m) at = refl

    by : (t : Bool) → is_awaiting s ≡ t → is_late s.phase ≡ false
    by true at = ap is_late (at_phase Awaiting s at)
    by false isnt = ap is_late ((facts_of h).owes (owed_so s.owed (parts3 (has_conn s n) (is_awaiting s) (is_owed s n) is isnt)))

awaiting_early : (s : State) → is_awaiting s ≡ true → is_late s.phase ≡ false
awaiting_early s at = ap is_late (at_phase Awaiting s at)

-- what is asked of stands in the line of its connection
pub asked_placed : {b : Since} (s : State) (n : ℕ) → Sound b s → (e : Exchange) → asking s n ≡ Some e → HasPlace e.number s.exchanges
asked_placed {b} s n so e is = by (conn s n) refl is
  where
    f : FactsOf b s
    f = sound_facts so

    in_middle : (m : ℕ) (xs ys : List ℕ) → IsIn m (xs ++ m ∷ ys)
    in_middle m [] ys = inl refl
    in_middle m (x ∷ xs) ys = inr (in_middle m xs ys)

    by : (o : Option Conn) → conn s n ≡ o → (elim o as (λ c. Option Exchange) [ None ↦ None | Some k ↦ first_some (λ m. option_and_then left_in (exchange s m)) k.line ]) ≡ Some e → HasPlace e.number s.exchanges
    by None none at = λ x i number no. absurd (cc at)
    by (Some k) some at = λ x i number none.
        let w = found_in s k.line e at in
        let here = in_find (is_exchange w.number) e s.exchanges w.there in
        let same_one : x.number ≡ w.number = number ∙ same_number e.number w.number here.1 in
        let lined : IsIn x.number k.line = subst (λ (ns : List ℕ). IsIn x.number ns) (sym w.parts) (subst (λ m. IsIn m (w.before ++ w.number ∷ w.behind)) (sym same_one) (in_middle w.number w.before w.behind)) in
        let both : None ≡ Some k.number = sym none ∙ f.placed k x (in_find (is_conn n) k s.conns some).0 i lined in
        cc both

pub taken_so : (s : State) (n i : ℕ) (d : Decision) → IsPermitted s (Noted (Taken n i d)) → permits_taken s n i d ≡ true
unfolding is_permitted permits
taken_so s n i d is = by s.made_room_for is
  where
    by : (room : Option ℕ) → (elim room as (λ x. Bool) [ Some who ↦ permits_taken s n i d && not (is_for_memory d) | None ↦ permits_taken s n i d ]) ≡ true → permits_taken s n i d ≡ true
    by (Some who) at = first_holds (permits_taken s n i d) (not (is_for_memory d)) at
    by None at = at

clock_awaits : (s : State) (seconds : ℕ) → IsPermitted s (Clock seconds) → is_awaiting s ≡ true
unfolding is_permitted permits
clock_awaits s seconds is = unhampered s.made_room_for (is_awaiting s) is

opened_awaits : (s : State) (n : ℕ) → IsPermitted s (Opened n) → is_awaiting s ≡ true
unfolding is_permitted permits
opened_awaits s n is = first_holds (is_awaiting s) (may_open s n) (unhampered s.made_room_for (is_awaiting s && may_open s n) is)

read_awaits : (s : State) (n : ℕ) → IsPermitted s (CanRead n) → is_awaiting s ≡ true
unfolding is_permitted permits
read_awaits s n is = unhampered s.made_room_for (is_awaiting s) is

write_awaits : (s : State) (n : ℕ) → IsPermitted s (CanWrite n) → is_awaiting s ≡ true
unfolding is_permitted permits
write_awaits s n is = unhampered s.made_room_for (is_awaiting s) is

reached_awaits : (s : State) (n : ℕ) → IsPermitted s (Reached n) → is_awaiting s ≡ true
unfolding is_permitted permits
reached_awaits s n is = first_holds (is_awaiting s) (has_conn s n) (unhampered s.made_room_for (is_awaiting s && has_conn s n) is)

stopped_awaits : (s : State) → IsPermitted s Stopped → is_awaiting s ≡ true
unfolding is_permitted permits
stopped_awaits s is = unhampered s.made_room_for (is_awaiting s) is

broke_may : (s : State) (n : ℕ) → IsPermitted s (Broke n) → permits_broke s n ≡ true
unfolding is_permitted permits
broke_may s n is = unhampered s.made_room_for (permits_broke s n) is

dialled_above : (s : State) (n : ℕ) (host : Bytes) (port : ℕ) → IsPermitted s (Dialled n host port) → s.top < n
unfolding is_permitted permits
dialled_above s n host port is = below s.top n (first_holds (is_new_number s n) (permits_dial s host port) (unhampered s.made_room_for (is_new_number s n && permits_dial s host port) is))

undialled_may : (s : State) (host : Bytes) (port : ℕ) → IsPermitted s (Undialled host port) → permits_dial s host port ≡ true
unfolding is_permitted permits
undialled_may s host port is = second_holds (may_fail s false) (permits_dial s host port) (unhampered s.made_room_for (may_fail s false && permits_dial s host port) is)

rooted_at : (s : State) (folder : Bytes) → IsPermitted s (Rooted folder) → is_at IsConfigured s ≡ true
unfolding is_permitted permits
rooted_at s folder is = first_holds (is_at IsConfigured s) (bytes_eq folder s.settings.root) (unhampered s.made_room_for (permits_rooted s folder) is)

listed_at : (s : State) (ok : Bool) → IsPermitted s (Listed ok) → is_at IsRooted s ≡ true
unfolding is_permitted permits
listed_at s ok is = first_holds (is_at IsRooted s) (may_fail s ok) (unhampered s.made_room_for (is_at IsRooted s && may_fail s ok) is)

listens_at : (s : State) (port : ℕ) (ok : Bool) → IsPermitted s (Listens port ok) → is_at IsListed s ≡ true
unfolding is_permitted permits
listens_at s port ok is = of (is_at IsListed s) (port == s.settings.port) (is_recovered s) (may_fail s ok) (unhampered s.made_room_for (permits_listens s port && may_fail s ok) is)
  where
    of : (a b c d : Bool) → ((a && b && c) && d) ≡ true → a ≡ true
    of true b c d at = refl
    of false b c d at = absurd (cc at)

configured_at : (s : State) (file : Bytes) (text : Option Bytes) → IsPermitted s (Configured file text) → is_at IsWoken s ≡ true
unfolding is_permitted permits
configured_at s file text is = of (is_at IsWoken s) (is_some_with (λ named. bytes_eq named file) (file_of s.term.words)) (may_fail s (is_some text)) (unhampered s.made_room_for (permits_configured s file && may_fail s (is_some text)) is)
  where
    of : (a b d : Bool) → ((a && b) && d) ≡ true → a ≡ true
    of true b d at = refl
    of false b d at = absurd (cc at)

-- phases as they were
ticked_early : (seconds : ℕ) (s : State) → is_late s.phase ≡ false → is_late (tick seconds s).phase ≡ false
ticked_early seconds s early = let was : Holds (AreStill s.phase s.owed) s = holds (refl, refl) in ap is_late (facts_of (tick-keeps (still_walk s.phase s.owed) seconds s was)).0 ∙ early

opened_early : (n : ℕ) (s : State) → is_late s.phase ≡ false → is_late (opened n s).phase ≡ false
unfolding opened
opened_early n s early = early

reached_early : (n : ℕ) (s : State) → is_late s.phase ≡ false → is_late (reached n s).phase ≡ false
unfolding reached touch on_conn on_client
reached_early n s early = early

deciding_late : (s : State) → is_late (deciding s).phase ≡ true
unfolding deciding
deciding_late s = refl

noted-turn : {b : Since} (remark : Remark) (s : State) → Sound b s → IsPermitted s (Noted remark) → Holds Turn s → Holds Turn (noted remark s)
unfolding noted is_permitted permits
noted-turn (Taken c i d) s so is h =
    let may = taken_so s c i d is in
    let on = (gate (decides (come_to_decide s)) (may_take (come_to_decide s) c i d) may).0 in
    take_decision-turn c d _ (deciding_late s) (taken_going s c i d so may) (deciding-turn s on h)
noted-turn (Cut c cause) s so is h =
    let on = (gate (decides (come_to_decide s)) (may_cut (come_to_decide s) c cause) (unhampered s.made_room_for (may_decide (λ t. may_cut t c cause) s) is)).0 in
    close_client-keeps turn_walk c true _ (deciding-turn s on h)
noted-turn (Kept key tag n extent) s so is h = note_kept-keeps key extent s h
noted-turn (Gone key) s so is h = note_gone-keeps key _ (come_to-turn Keeping s h)
noted-turn (Forgotten key) s so is h = forgotten_by-turn key s h
noted-turn (Evicted key tag n i) s so is h = evicted-turn _ (come_to-turn Evicting s h)
noted-turn (Loaded key tag n i) s so is h = load-turn key i s h

changed-turn : {b : Since} (s : State) (h : Happening) → Sound b s → IsPermitted s h → Holds Turn s → Holds Turn (changed s h)
unfolding changed
changed-turn s (Woke image) so is h = woken-turn image s
changed-turn s (Waits w) so is h = rest_with-turn w _ (ending-turn s h)
changed-turn s (Clock seconds) so is h = event-turn _ (ticked_early seconds s (awaiting_early s (clock_awaits s seconds is))) (tick-keeps turn_walk seconds s h)
changed-turn s (Opened n) so is h = event-turn _ (opened_early n s (awaiting_early s (opened_awaits s n is))) (opened-turn n s h)
changed-turn s (CanRead n) so is h = owing-turn (ReadOf n) n s (awaiting_early s (read_awaits s n is)) h
changed-turn s (CanWrite n) so is h = owing-turn (WriteTo n) n s (awaiting_early s (write_awaits s n is)) h
changed-turn s (Heard c bytes) so is h = paid-turn _ (hear-keeps turn_walk c bytes s h)
changed-turn s (HungUp c) so is h = paid-turn _ (hang_up-keeps turn_walk c s h)
changed-turn s (Said c offered bytes) so is h = paid-turn _ (said-turn c (length bytes) s h)
changed-turn s (Shut c) so is h = shut-turn c _ (come_to-turn Connecting s h)
changed-turn s (Dialled n host port) so is h =
    dialled-turn n host port (come_to Connecting s) (come_to-sound Connecting s so) (subst (λ m. m < n) (sym (placing-top (come_to Connecting s) ∙ come_to-top Connecting s)) (dialled_above s n host port is)) (come_to-turn Connecting s h)
changed-turn s (Undialled host port) so is h = undialled-turn (placing (come_to Connecting s)) (placing-keeps turn_places turn_lined _ (come_to-turn Connecting s h))
changed-turn s (Reached n) so is h = event-turn _ (reached_early n s (awaiting_early s (reached_awaits s n is))) (reached-turn n s h)
changed-turn s (Ended n) so is h = paid-turn _ (gone-turn true n s h)
changed-turn s (Broke n) so is h = paid-turn _ (gone-turn false n _ (event-turn s (broke_early s n (broke_may s n is) h) h))
changed-turn s (Asked n bytes) so is h = paid-turn _ (ask-keeps turn_walk n (length bytes) s (asked_placed s n so) h)
changed-turn s (Got n bytes) so is h = paid-turn _ (end_replies-keeps turn_walk _ (got-turn (length bytes) n bytes s h))
changed-turn s (Dropped n) so is h = dropped-turn n _ (come_to-turn Connecting s h)
changed-turn s (NoneYet n) so is h = paid-turn s h
changed-turn s (Began op) so is h = begun_op-turn op s h
changed-turn s (Did op ok) so is h = ended_op-turn op ok s h
changed-turn s (Unread name) so is h = unread-turn name s h
changed-turn s (Noted remark) so is h = noted-turn remark s so is h
changed-turn s (Rooted folder) so is h = opened_to-turn IsRooted true s (early_at IsConfigured s refl (λ e. cc e) (rooted_at s folder is) h) h
changed-turn s (Listed ok) so is h = opened_to-turn IsListed ok s (early_at IsRooted s refl (λ e. cc e) (listed_at s ok is) h) h
changed-turn s (Listens port ok) so is h = opened_to-turn IsListening ok s (early_at IsListed s refl (λ e. cc e) (listens_at s port ok is) h) h
changed-turn s (Configured file text) so is h = configured-turn text s (early_at IsWoken s refl (λ e. cc e) (configured_at s file text is) h) h
changed-turn s (Printed text) so is h = h
changed-turn s Stopped so is h = event-turn _ (awaiting_early s (stopped_awaits s is)) (holds (facts_of h))

pub after-turn : {b : Since} (s : State) (h : Happening) → Sound b s → IsPermitted s h → Holds Turn s → Holds Turn (after s h)
after-turn s h so is turn = changed-turn s h so is turn
