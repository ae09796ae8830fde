-- What one read brings, response by response, and each happening, keeps that each request has one exchange and few have no place.
use Rattle.std.proofs.Common.{◌≡◌, ◌⊎◌, refl, ℕ, zero, suc, ◌+◌, ◌<◌, ◌≤◌, nat_lt, Bool, true, false, not, ◌==◌, ◌&&◌, ◌||◌, List, [], ◌∷◌, ◌++◌, map, filter, find, cond, drop, length, Option, Some, None, Result, Ok, Err, inl, inr, sym, subst, ap, ◌∙◌, le_trans, zero-le, arith}
use Rattle.std.proofs.lemmas.List.{map-append}
use Rattle.pp_conf.specs.Conf.{Settings}
use Rattle.pp_conf.specs.Words.{reading_of}
use Rattle.pp_framing.specs.Body.{Outcome, Done, Going, Bad}
use Rattle.pp_framing.specs.Framing.{rule_of}
use Rattle.pp_framing.specs.Rules.{body_of}
use Rattle.pp_framing.specs.declared.body.BodyRule.{BodyRule}
use Rattle.pp_framing.specs.declared.framing.ResponseFault.{ResponseFault}
use Rattle.pp_head.specs.Read.{Read, Whole, TooLong, Bad as NoHead, More}
use Rattle.pp_head.specs.Response.{Response, response_at}
use Rattle.pp_pipe.specs.Front.{is_interim}
use Rattle.pp_text.specs.Bytes.{is_empty}
use Rattle.pp_world.specs.Files.{Files}
use Rattle.pp_world.specs.declared.event.Wants.{Wants}
use Rattle.pp_world.specs.declared.happening.Happening.TheVariants.{Woke, Waits, Clock, Opened, CanRead, CanWrite, Heard, HungUp, Said, Shut, Dialled, Undialled, Reached, Ended, Broke, Asked, Got, Dropped, NoneYet, Began, Did, Unread, Noted, Rooted, Listed, Listens, Configured, Printed, Stopped}
use Rattle.pp_world.specs.declared.happening.Happening.{Happening}
use Rattle.pp_world.specs.declared.note.Decision.{Decision}
use Rattle.pp_world.specs.declared.note.Remark.TheVariants.{Taken, Cut, Kept, Gone, Forgotten, Evicted, Loaded}
use Rattle.pp_world.specs.declared.note.Remark.{Remark}
use Rattle.pp_world.specs.declared.op.DiskOp.{DiskOp}
use Rattle.pp_law.specs.After.{waits_for_row, new_client, event, opened, owing, reached, paid, said, gone, take_decision, evicted, brings_to, dropping_body, refused_row, leave_memory, forgotten_by, noted, begun_op, ended_op, unread, shut, dialled, refused_dial, undialled, out, dropped, changed, after}
use Rattle.pp_law.specs.Chunks.{note_use}
use Rattle.pp_law.specs.Closing.{close_client, exchanges_of, is_of, leave_one, left_alone}
use Rattle.pp_law.specs.Connections.{client, conn, each_exchange, end_exchange, exchange, front_of_line, is_client, is_exchange, lose_attempt, may_ask_again, on_client, on_conn, on_exchange, close_conn, placing, Placement}
use Rattle.pp_law.specs.Leaving.{Leaving, ForAnother, ForMemory, BeforeDecision, leaving_as}
use Rattle.pp_law.specs.Lists.{Bytes, change, is_this}
use Rattle.pp_law.specs.Opening.{terms_behind, are_texts, begun, configured, is_at, is_opening, lose_in_opening, names_file, opened_to, settings_in, stuck, with_settings, woken}
use Rattle.pp_law.specs.OwnHeads.{is_wrong_head, join, joined_one, join_bound, moved_on, note_own, note_sent}
use Rattle.pp_law.specs.Passing.{poured}
use Rattle.pp_law.specs.Permits.{is_new_number, is_permitted, IsPermitted, permits, may_open}
use Rattle.pp_law.specs.Phases.{phases, in_phase, is_awaiting, is_done, behind, next, come, come_to, come_to_decide, decides, deciding, due_victim, ending}
use Rattle.pp_law.specs.Replies.{end_replies, said_by}
use Rattle.pp_law.specs.Responses.{bad_head, bad_response, finish, asks_head, answer_with, end_if_empty, begin_answer, answer_for, head_came, Piece, is_early, with_unread, head_piece, deliver, payload_of, body_piece_of, body_piece, next_piece, got, bring_row}
use Rattle.pp_law.specs.Served.{accepts}
use Rattle.pp_law.specs.Stages.{bound_of}
use Rattle.pp_law.specs.State.{State, Term, start, RowRefused, Phase, Before, IsWoken, IsConfigured, IsRooted, IsListed, IsListening, IsStuck, Awaiting, Handling, Evicting, Keeping, Deciding, Following, Connecting, DecidingAgain, Owed, Free, ReadOf, WriteTo, Joining, Answer, Bound, Client, Conn, Exchange, Instance}
use Rattle.pp_law.specs.Table.{forget, instance, kept_row, row, swept}
use Rattle.pp_law.specs.Store.{load, load_from}
use Rattle.pp_law.specs.Turn.{rest_with}
use Rattle.pp_laws.specs.Runs.{IsIn}
use Rattle.pp_laws.proofs.Callers.{said_by-same}
use Rattle.pp_laws.proofs.Lists.{Changed, in_change, in_filter, in_find, in_map, other, same}
use Rattle.pp_laws.proofs.Sound.{client_number, exchange_number}
use Rattle.pp_laws.proofs.Tests.{below, first_holds, number_same, same_number, second_holds}
use Rattle.pp_laws_bounds.proofs.Counts.{in_filter_of, in_map_of, length-filter, length-push}
use Rattle.pp_laws_pool.proofs.View.{View, Walk, Holds, holds, facts_of, view, SameAsk}
use Rattle.pp_laws_pool.proofs.WalkCases.{by_aim_of, by_outcome, by_pause, each_of, each_so, when}
use Rattle.pp_laws_pool.proofs.WalkClients.{ask-keeps, begin_replies-keeps, close_client-keeps, decided-keeps, end_replies-keeps, fill-keeps, give_up_asks-keeps, hang_up-keeps, hear-keeps, pour-keeps, regained-keeps, use_said-keeps}
use Rattle.pp_laws_pool.proofs.WalkClosings.{close_conn-keeps}
use Rattle.pp_laws_pool.proofs.WalkDisk.{begin_in_opening-keeps, begin_in_turn-keeps, close_name-keeps, end_op-keeps, lose_in_opening-keeps, note_gone-keeps, note_kept-keeps}
use Rattle.pp_laws_pool.proofs.WalkExchanges.{clients_changed-keeps, exchanges_changed-keeps, end_exchange-keeps, lose_attempt-keeps, on_client-keeps, on_conn-keeps, on_exchange-keeps, same_ask}
use Rattle.pp_laws_pool.proofs.WalkHeads.{bring_row-keeps, by_aim-keeps}
use Rattle.pp_laws_pool.proofs.WalkPieces.{bad_head-keeps, bad_response-keeps, ended-keeps, finish-keeps}
use Rattle.pp_laws_pool.proofs.WalkRows.{drop_chunk-keeps, forget-keeps}
use Rattle.pp_laws_pool.proofs.WalkSteps.{drop_unseen-keeps, placing-keeps, rested-keeps, tick-keeps, touch-keeps}
use Rattle.pp_laws_asks.proofs.AsksFacts.{Asks, Facts, asks_begins, asks_places, asks_walk}

end_if_empty-asks : (k : Conn) (e : Exchange) (a : Answer) (s : State) → Holds Asks s → Holds Asks (end_if_empty k e a s)
unfolding end_if_empty
end_if_empty-asks k e a s h = by_outcome (body_of a.rule []).outcome (λ rest. finish-keeps asks_walk k e a s h) h h

begin_answer-asks : (k : Conn) (e : Exchange) (head : Response) (rule : BodyRule) (s : State) → Holds Asks s → Holds Asks (begin_answer k e head rule s)
unfolding begin_answer on_conn
begin_answer-asks k e head rule s h = end_if_empty-asks k e (answer_with e head rule) _ (by_aim-keeps asks_walk e head rule _ (holds (facts_of h)))

answer_for-asks : (k : Conn) (e : Exchange) (head : Response) (s : State) → Holds Asks s → Holds Asks (answer_for k e head s)
unfolding answer_for
answer_for-asks k e head s h = when (is_wrong_head e head) (bad_head-keeps asks_walk k s h) (by_rule (rule_of (asks_head e) head.status head.fields))
  where
    by_rule : (read : Result BodyRule ResponseFault) → Holds Asks (elim read as (λ c. State) [ Ok rule ↦ begin_answer k e head rule s | Err fault ↦ bad_head k s ])
    by_rule (Ok rule) = begin_answer-asks k e head rule s h
    by_rule (Err fault) = bad_head-keeps asks_walk k s h

head_came-asks : (k : Conn) (head : Response) (s : State) → Holds Asks s → Holds Asks (head_came k head s)
unfolding head_came
head_came-asks k head s h = each_so (front_of_line s k) (λ none. close_conn-keeps asks_walk false k s h) (λ e first. answer_for-asks k e head _ (bring_row-keeps asks_walk e head s h))

piece_when : (t : Bool) (p q : Piece) → Holds Asks p.state → Holds Asks q.state → Holds Asks (elim t as (λ c. Piece) [ true ↦ p | false ↦ q ]).state
piece_when true p q hp hq = hp
piece_when false p q hp hq = hq

with_unread-asks : (k : Conn) (bytes : Bytes) (s : State) → Holds Asks s → Holds Asks (on_conn k.number (with_unread bytes) s)
unfolding on_conn
with_unread-asks k bytes s h = holds (facts_of h)

head_piece_by : (k : Conn) (bytes : Bytes) (s : State) (read : Read Response) → Holds Asks s
    → Holds Asks (elim read as (λ c. Piece) [
      | More ↦ record { state = on_conn k.number (with_unread bytes) s; rest = [] }
      | TooLong ↦ record { state = bad_head k s; rest = [] }
      | NoHead ↦ record { state = bad_head k s; rest = [] }
      | Whole head ↦ elim (is_interim head.status) as (λ c. Piece) [
        | true ↦ record { state = on_conn k.number (with_unread []) s; rest = drop head.length bytes }
        | false ↦ record { state = head_came k head s; rest = drop head.length bytes }
      ]
    ]).state
head_piece_by k bytes s More h = with_unread-asks k bytes s h
head_piece_by k bytes s TooLong h = bad_head-keeps asks_walk k s h
head_piece_by k bytes s NoHead h = bad_head-keeps asks_walk k s h
head_piece_by k bytes s (Whole head) h = piece_when (is_interim head.status) _ _ (with_unread-asks k [] s h) (head_came-asks k head s h)

head_piece-asks : (k : Conn) (bytes : Bytes) (s : State) → Holds Asks s → Holds Asks (head_piece k bytes s).state
head_piece-asks k bytes s h = piece_when (is_early s k) _ _ (close_conn-keeps asks_walk true k s h) (head_piece_by k (k.unread ++ bytes) s (response_at (k.unread ++ bytes)) h)

-- ---- bodies

note_own-asks : (e : Exchange) (a : Answer) (at : ℕ) (bytes : Bytes) (s : State) → Holds Asks s → Holds Asks (note_own e a at bytes s)
unfolding note_own
note_own-asks e a at bytes s h = when (is_empty bytes) h (holds (facts_of h))

note_sent-asks : (e : Exchange) (a : Answer) (at : ℕ) (bytes : Bytes) (s : State) → Holds Asks s → Holds Asks (note_sent e a at bytes s)
unfolding note_sent
note_sent-asks e a at bytes s h = by_aim_of e.aim h (note_own-asks e a at bytes s h) (λ v from to. note_own-asks e a at bytes s h)

join-asks : (b : Bound) (bytes : Bytes) (s : State) → Holds Asks s → Holds Asks (join b bytes s)
unfolding join note_use
join-asks b bytes s h = each_of (joined_one b bytes s) h (λ x. holds (facts_of h))

moved_same : (m : ℕ) (e : Exchange) → SameAsk (moved_on m e) e
moved_same m e = by (bound_of e)
  where
    by : (o : Option Bound) → SameAsk (elim o as (λ c. Exchange) [ None ↦ e | Some b ↦ record e { body = Joining (record b { next = b.next + m }) } ]) e
    by None = same_ask e e refl refl refl refl refl refl
    by (Some b) = same_ask _ e refl refl refl refl refl refl

join_bound-asks : (e : Exchange) (bytes : Bytes) (s : State) → Holds Asks s → Holds Asks (join_bound e bytes s)
unfolding join_bound
join_bound-asks e bytes s h = each_of (bound_of e) h (λ b. on_exchange-keeps asks_walk e.number (moved_on (length bytes)) _ (moved_same (length bytes)) (join-asks b bytes s h))

deliver-asks : (e : Exchange) (a : Answer) (at : ℕ) (bytes : Bytes) (s : State) → Holds Asks s → Holds Asks (deliver e a at bytes s)
unfolding deliver
deliver-asks e a at bytes s h = pour-keeps asks_walk e (poured bytes) _ (join_bound-asks e bytes _ (note_sent-asks e a at bytes s h))

body_piece_by : (k : Conn) (a : Answer) (e : Exchange) (bytes : Bytes) (t : State) (outcome : Outcome) → Holds Asks t
    → Holds Asks (elim outcome as (λ c. Piece) [
      | Going ↦ record { state = on_conn k.number (λ i. record i { answer = Some (record a { raw = a.raw ++ bytes }) }) t; rest = [] }
      | Bad ↦ record { state = bad_response k t; rest = [] }
      | Done rest ↦ record { state = finish k e a t; rest = rest }
    ]).state
unfolding on_conn
body_piece_by k a e bytes t Going h = holds (facts_of h)
body_piece_by k a e bytes t Bad h = bad_response-keeps asks_walk k t h
body_piece_by k a e bytes t (Done rest) h = finish-keeps asks_walk k e a t h

body_piece-asks : (k : Conn) (a : Answer) (bytes : Bytes) (s : State) → Holds Asks s → Holds Asks (body_piece k a bytes s).state
body_piece-asks k a bytes s h = by (front_of_line s k)
  where
    by : (front : Option Exchange) → Holds Asks (elim front as (λ c. Piece) [ None ↦ record { state = close_conn false k s; rest = [] } | Some e ↦ body_piece_of k a e bytes s ]).state
    by None = close_conn-keeps asks_walk false k s h
    by (Some e) =
        let at : ℕ = length (payload_of a) in
        let fresh : Bytes = drop at (body_of a.rule (a.raw ++ bytes)).payload in
        body_piece_by k a e bytes (deliver e a at fresh s) (body_of a.rule (a.raw ++ bytes)).outcome (deliver-asks e a at fresh s h)

next_piece-asks : (k : Conn) (bytes : Bytes) (s : State) → Holds Asks s → Holds Asks (next_piece k bytes s).state
next_piece-asks k bytes s h = by k.answer
  where
    by : (answer : Option Answer) → Holds Asks (elim answer as (λ c. Piece) [ Some a ↦ body_piece k a bytes s | None ↦ head_piece k bytes s ]).state
    by None = head_piece-asks k bytes s h
    by (Some a) = body_piece-asks k a bytes s h

-- ---- the read

got-asks : (more n : ℕ) (bytes : Bytes) (s : State) → Holds Asks s → Holds Asks (got more n bytes s)
unfolding got
got-asks zero n bytes s h = h
got-asks (suc more) n bytes s h = each_of (conn s n) h (λ k. when (k.is_closing || is_empty bytes) h (got-asks more n (next_piece k bytes s).rest (next_piece k bytes s).state (next_piece-asks k bytes s h)))

-- ---- phases

behind-asks : (phase : Phase) (s : State) → Holds Asks s → Holds Asks (behind phase s)
behind-asks Before s h = h
behind-asks IsWoken s h = h
behind-asks IsConfigured s h = h
behind-asks IsRooted s h = h
behind-asks IsListed s h = h
behind-asks IsListening s h = h
behind-asks IsStuck s h = h
behind-asks Awaiting s h = h
behind-asks Handling s h = holds (facts_of h)
behind-asks Evicting s h = give_up_asks-keeps asks_walk _ (holds (facts_of h))
behind-asks Keeping s h = holds (facts_of h)
behind-asks Deciding s h = holds (facts_of h)
behind-asks Following s h = fill-keeps asks_walk asks_begins _ (give_up_asks-keeps asks_walk _ (drop_unseen-keeps asks_walk _ (holds (facts_of h))))
behind-asks Connecting s h = placing-keeps asks_places _ (holds (facts_of h))
behind-asks DecidingAgain s h = h

next-asks : (s : State) → Holds Asks s → Holds Asks (next s)
unfolding next
next-asks s h = behind-asks s.phase s h

come-asks : (stops : State → Bool) (ps : List Phase) (s : State) → Holds Asks s → Holds Asks (come stops ps s)
unfolding come
come-asks stops [] s h = h
come-asks stops (p ∷ ps) s h = come-asks stops ps _ (when (is_at p s) (when (stops s) h (when (is_done s) (next-asks s h) h)) h)

come_to-asks : (phase : Phase) (s : State) → Holds Asks s → Holds Asks (come_to phase s)
unfolding come_to
come_to-asks phase s h = come-asks (is_at phase) phases s h

come_to_decide-asks : (s : State) → Holds Asks s → Holds Asks (come_to_decide s)
unfolding come_to_decide
come_to_decide-asks s h = come-asks decides phases s h

deciding-asks : (s : State) → Holds Asks s → Holds Asks (deciding s)
unfolding deciding
deciding-asks s h = holds (facts_of (come_to_decide-asks s h))

-- ---- events

event-asks : (s : State) → Holds Asks s → Holds Asks (event s)
unfolding event
event-asks s h = regained-keeps asks_walk _ (holds (facts_of h))

paid-asks : (s : State) → Holds Asks s → Holds Asks (paid s)
unfolding paid
paid-asks s h = regained-keeps asks_walk _ (holds (facts_of h))

in_longer : (n : ℕ) (xs ys : List ℕ) → IsIn n xs → IsIn n (xs ++ ys)
in_longer n [] ys i = absurd i
in_longer n (x ∷ xs) ys (inl e) = inl e
in_longer n (x ∷ xs) ys (inr i) = inr (in_longer n xs ys i)

opened-asks : (n : ℕ) (s : State) → length s.clients < 256 → Holds Asks s → Holds Asks (opened n s)
unfolding opened
opened-asks n s room h = holds (record {
  few_clients = let e : length (s.clients ++ new_client n s.clock ∷ []) ≡ length s.clients + 1 = length-push s.clients (new_client n s.clock) in omega arith;
  rise = (facts_of h).rise;
  given = (facts_of h).given;
  one = (facts_of h).one;
  theirs = λ e c i is. subst (λ ns. IsIn c ns) (sym (map-append client_number s.clients (new_client n s.clock ∷ []))) (in_longer c (map client_number s.clients) (n ∷ []) ((facts_of h).theirs e c i is));
  few = (facts_of h).few;
})

reached-asks : (n : ℕ) (s : State) → Holds Asks s → Holds Asks (reached n s)
unfolding reached on_conn
reached-asks n s h = touch-keeps asks_walk n _ (holds (facts_of h))

owing-asks : (owed : Owed) (n : ℕ) (s : State) → Holds Asks s → Holds Asks (event (owing owed n s))
unfolding owing
owing-asks owed n s h = event-asks _ (holds (facts_of (touch-keeps asks_walk n s h)))

said-asks : (c n : ℕ) (s : State) → Holds Asks s → Holds Asks (said c n s)
unfolding said
said-asks c n s h = each_of (client s c) h (λ x. end_replies-keeps asks_walk _ (on_client-keeps asks_walk c (said_by n) _ (λ y. (said_by-same n y).number) (use_said-keeps (λ id i d v found g. g) n x s h)))

gone-asks : (is_clean : Bool) (n : ℕ) (s : State) → Holds Asks s → Holds Asks (gone is_clean n s)
unfolding gone
gone-asks is_clean n s h = each_of (conn s n) h (λ k. end_replies-keeps asks_walk _ (ended-keeps asks_walk is_clean k s h))

-- ---- notes

take_decision-asks : (n : ℕ) (d : Decision) (s : State) → Holds Asks s → Holds Asks (take_decision n d s)
unfolding take_decision
take_decision-asks n d s h = each_so (client s n) (λ none. h) (λ c found. regained-keeps asks_walk _ (holds (facts_of (decided-keeps asks_walk asks_begins c d s (in_find (is_client n) c s.clients found).0 h))))

evicted-asks : (s : State) → Holds Asks s → Holds Asks (evicted s)
unfolding evicted
evicted-asks s h = each_of (due_victim s) h (λ place. drop_chunk-keeps asks_walk place.0 place.1 s h)

refused_row-asks : (x : Instance) (s : State) → Holds Asks s → Holds Asks (refused_row x s)
unfolding refused_row
refused_row-asks x s h =
    let told : State = record (forget x.id s) { clients = change (waits_for_row x.id) (λ c. record c { course = RowRefused }) (forget x.id s).clients } in
    holds (exchanges_changed-keeps asks_walk (brings_to x.id) dropping_body (view told) (λ e. same_ask _ e refl refl refl refl refl refl)
    (clients_changed-keeps asks_walk (waits_for_row x.id) (λ c. record c { course = RowRefused }) (view (forget x.id s)) (λ c. refl) (facts_of (forget-keeps asks_walk x.id s h))))

leave_memory-asks : (how : Leaving) (s : State) → Holds Asks s → Holds Asks (leave_memory how s)
unfolding leave_memory
leave_memory-asks ForAnother s h = holds (facts_of (come_to-asks Evicting s h))
leave_memory-asks (ForMemory x) s h = refused_row-asks x _ (come_to-asks Evicting s h)
leave_memory-asks (BeforeDecision x) s h = holds (facts_of (forget-keeps asks_walk x.id _ (come_to_decide-asks s h)))

forgotten_by-asks : (key : Bytes) (s : State) → Holds Asks s → Holds Asks (forgotten_by key s)
unfolding forgotten_by
forgotten_by-asks key s h = each_of (leaving_as s key) h (λ how. leave_memory-asks how s h)

load-asks : (key : Bytes) (i : ℕ) (s : State) → Holds Asks s → Holds Asks (load key i s)
unfolding load load_from note_use
load-asks key i s h = each_of (row s key) h (λ x. each_of (kept_row s key) h (λ e. holds (facts_of h)))

noted-asks : (remark : Remark) (s : State) → Holds Asks s → Holds Asks (noted remark s)
unfolding noted
noted-asks (Taken c i d) s h = take_decision-asks c d _ (deciding-asks s h)
noted-asks (Cut c cause) s h = close_client-keeps asks_walk c true _ (deciding-asks s h)
noted-asks (Kept key tag n extent) s h = note_kept-keeps key extent s h
noted-asks (Gone key) s h = note_gone-keeps key _ (come_to-asks Keeping s h)
noted-asks (Forgotten key) s h = forgotten_by-asks key s h
noted-asks (Evicted key tag n i) s h = evicted-asks _ (come_to-asks Evicting s h)
noted-asks (Loaded key tag n i) s h = load-asks key i s h

-- ---- the disk, and the opening

begun_op-asks : (op : DiskOp) (s : State) → Holds Asks s → Holds Asks (begun_op op s)
unfolding begun_op
begun_op-asks op s h = when (is_opening s) (begin_in_opening-keeps op s h) (begin_in_turn-keeps op _ (come_to-asks Keeping s h))

ended_op-asks : (op : DiskOp) (ok : Bool) (s : State) → Holds Asks s → Holds Asks (ended_op op ok s)
unfolding ended_op
ended_op-asks op true s h = end_op-keeps op true s h
ended_op-asks op false s h = lose_in_opening-keeps s.agenda.name _ (end_op-keeps op false s h)

unread-asks : (name : Bytes) (s : State) → Holds Asks s → Holds Asks (unread name s)
unfolding unread
unread-asks name s h = paid-asks _ (lose_in_opening-keeps name _ (close_name-keeps name s h))

with_settings-asks : (o : Option Settings) (s : State) → Holds Asks s → Holds Asks (with_settings o s)
unfolding with_settings
with_settings-asks None s h = holds (facts_of h)
with_settings-asks (Some c) s h = holds (facts_of h)

begun-asks : (s : State) → Holds Asks s → Holds Asks (begun s)
unfolding begun
begun-asks s h = by (are_texts s.term)
  where
    by : (t : Bool) → Holds Asks (elim t as (λ c. State) [
      | false ↦ with_settings None s
      | true ↦ elim (names_file s.term) as (λ c. State) [ true ↦ record s { phase = IsWoken } | false ↦ with_settings (settings_in (reading_of s.term.words None)) s ]
    ])
    by false = with_settings-asks None s h
    by true = when (names_file s.term) (holds (facts_of h)) (with_settings-asks (settings_in (reading_of s.term.words None)) s h)

pub start-asks : (terms : List Term) → Holds Asks (start terms)
start-asks terms = holds (record { few_clients = zero-le; rise = tt; given = λ e i. absurd i; one = λ d e c i. absurd i; theirs = λ e c i. absurd i; few = zero-le })

woken-asks : (image : Files) (s : State) → Holds Asks (woken image s)
unfolding woken
woken-asks image s = begun-asks _ (holds (facts_of (start-asks (terms_behind s.terms))))

opened_to-asks : (phase : Phase) (ok : Bool) (s : State) → Holds Asks s → Holds Asks (opened_to phase ok s)
unfolding opened_to stuck
opened_to-asks phase true s h = holds (facts_of h)
opened_to-asks phase false s h = holds (facts_of h)

configured-asks : (text : Option Bytes) (s : State) → Holds Asks s → Holds Asks (configured text s)
unfolding configured stuck
configured-asks None s h = holds (facts_of h)
configured-asks (Some text) s h = with_settings-asks (settings_in (reading_of s.term.words (Some text))) s h

-- ---- a client that is closed leaves its exchange

-- of those numbers alone one may be for it
abbrev AreOf : ℕ → List ℕ → State → Type 0
AreOf n ns s = (e : Exchange) → IsIn e s.exchanges → e.asker ≡ Some n → IsIn e.number ns

not_it : (m : ℕ) (ns : List ℕ) (k : ℕ) → (k == m) ≡ false → IsIn k (m ∷ ns) → IsIn k ns
not_it m ns k isnt (inl e) = let both : true ≡ false = sym (number_same m) ∙ ap (λ x. x == m) (sym e) ∙ isnt in absurd (cc both)
not_it m ns k isnt (inr i) = i

one_left : (n m : ℕ) (ns : List ℕ) (e : Exchange) (s : State) → e.number ≡ m → AreOf n (m ∷ ns) s → AreOf n ns (leave_one e s)
unfolding leave_one end_exchange on_exchange
one_left n m ns e s number are = by (e.asked == 0)
  where
    apart : (d : Exchange) → (d.number == e.number) ≡ false → IsIn d.number (m ∷ ns) → IsIn d.number ns
    apart d isnt i = not_it m ns d.number (ap (λ x. d.number == x) (sym number) ∙ isnt) i

    not_so : (t : Bool) → not t ≡ true → t ≡ false
    not_so true is = absurd (cc is)
    not_so false is = refl

    changed_by : (d : Exchange) → Changed (is_exchange e.number) left_alone s.exchanges d → d.asker ≡ Some n → IsIn d.number ns
    changed_by d (same i isnt) is = apart d isnt (are d i is)
    changed_by d (other x i hit eq) is = let both : None ≡ Some n = sym (ap (λ (y : Exchange). y.asker) eq) ∙ is in absurd (cc both)

    by : (t : Bool) → AreOf n ns (elim t as (λ c. State) [ true ↦ end_exchange e.number s | false ↦ on_exchange e.number left_alone s ])
    by true d i is = let w = in_filter (λ x. not (is_exchange e.number x)) d s.exchanges i in apart d (not_so (is_exchange e.number d) w.1) (are d w.0 is)
    by false d i is = changed_by d (in_change (is_exchange e.number) left_alone d s.exchanges i) is

not_found : (m : ℕ) (es : List Exchange) (d : Exchange) → find (is_exchange m) es ≡ None → IsIn d es → (d.number == m) ≡ false
not_found m [] d none i = absurd i
not_found m (e ∷ es) d none i = by (is_exchange m e) refl none i (λ rest j. not_found m es d rest j)
  where
    by : (t : Bool) → is_exchange m e ≡ t → cond t (Some e) (find (is_exchange m) es) ≡ None → (d ≡ e) ⊎ IsIn d es → (find (is_exchange m) es ≡ None → IsIn d es → (d.number == m) ≡ false) → (d.number == m) ≡ false
    by true is rest j more = absurd (cc rest)
    by false is rest (inl eq) more = ap (is_exchange m) eq ∙ is
    by false is rest (inr j) more = more rest j

each_left : (n : ℕ) (ns : List ℕ) (s : State) → AreOf n ns s → AreOf n [] (each_exchange leave_one ns s)
unfolding each_exchange
each_left n [] s are = are
each_left n (m ∷ ns) s are = each_left n ns _ (by (exchange s m) refl)
  where
    by : (o : Option Exchange) → exchange s m ≡ o → AreOf n ns (elim o as (λ c. State) [ None ↦ s | Some e ↦ leave_one e s ])
    by None none = λ d i is. not_it m ns d.number (not_found m s.exchanges d none i) (are d i is)
    by (Some e) found = one_left n m ns e s (same_number e.number m (in_find (is_exchange m) e s.exchanges found).1) are

numbered : (n : ℕ) (es : List Exchange) (d : Exchange) → IsIn d es → d.asker ≡ Some n → IsIn d.number (map exchange_number (filter (is_of n) es))
numbered n es d i is = in_map_of exchange_number d (filter (is_of n) es) (in_filter_of (is_of n) d es i (ap (is_this n) is ∙ number_same n))

all_numbered : (n : ℕ) (is_cut : Bool) (s : State) → AreOf n (exchanges_of n s) (on_client n (λ c. record c { is_closing = true; is_cut = c.is_cut || is_cut }) s)
unfolding on_client
all_numbered n is_cut s d i is = numbered n s.exchanges d i is

-- it has none
closed_alone : (n : ℕ) (is_cut : Bool) (s : State) → AreOf n [] (close_client n is_cut s)
unfolding close_client swept
closed_alone n is_cut s = each_left n (exchanges_of n s) _ (all_numbered n is_cut s)

-- one number is out
in_others : (n c : ℕ) (cs : List Client) → (c ≡ n → ⊥) → IsIn c (map client_number cs) → IsIn c (map client_number (filter (λ x. not (is_client n x)) cs))
in_others n c cs apart i = let w = in_map client_number c cs i in subst (λ m. IsIn m (map client_number (filter (λ x. not (is_client n x)) cs))) (sym w.is) (in_map_of client_number w.was (filter (λ x. not (is_client n x)) cs) (in_filter_of (λ x. not (is_client n x)) w.was cs w.there (ap not (differs w.was.number (λ e. apart (w.is ∙ e))))))
  where
    differs : (m : ℕ) → (m ≡ n → ⊥) → (m == n) ≡ false
    differs m isnt = by (m == n) refl
      where
        by : (t : Bool) → (m == n) ≡ t → t ≡ false
        by true is = absurd (isnt (same_number m n is))
        by false is = refl

shut-asks : (n : ℕ) (s : State) → Holds Asks s → Holds Asks (shut n s)
unfolding shut
shut-asks n s h = holds (record {
  few_clients = le_trans (length-filter (λ x. not (is_client n x)) (close_client n false s).clients) closed.few_clients;
  rise = closed.rise;
  given = closed.given;
  one = closed.one;
  theirs = λ e c i is. in_others n c (close_client n false s).clients (λ eq. closed_alone n false s e i (is ∙ ap (λ m. Some m) eq)) (closed.theirs e c i is);
  few = closed.few;
})
  where
    closed : Asks (view (close_client n false s))
    closed = facts_of (close_client-keeps asks_walk n false s h)

-- ---- places

dialled-asks : (n : ℕ) (host : Bytes) (port : ℕ) (p : Placement) → Holds Asks p.state → Holds Asks (dialled n host port p)
unfolding dialled
dialled-asks n host port p h = by_pause p.pause h (λ k e. h) (λ e. holds (asks_places e.number n _ (facts_of h)))

undialled-asks : (p : Placement) → Holds Asks p.state → Holds Asks (undialled p)
unfolding undialled refused_dial
undialled-asks p h = by_pause p.pause h (λ k e. h) (λ e. refused e (lost e))
  where
    lost : (e : Exchange) → Holds Asks (lose_attempt e (record p.state { failures = p.state.failures + 1 }))
    lost e = lose_attempt-keeps asks_walk e _ (holds (facts_of h))

    refused : (e : Exchange) → Holds Asks (lose_attempt e (record p.state { failures = p.state.failures + 1 })) → Holds Asks (refused_dial e (lose_attempt e (record p.state { failures = p.state.failures + 1 })))
    refused e g = when (may_ask_again (lose_attempt e (record p.state { failures = p.state.failures + 1 })) e.number) g (fill-keeps asks_walk asks_begins _ (end_exchange-keeps asks_walk e.number _ g))

dropped-asks : (n : ℕ) (s : State) → Holds Asks s → Holds Asks (dropped n s)
unfolding dropped out
dropped-asks n s h = each_of (conn s n) h (λ k. when k.is_closing (holds (facts_of h)) (holds (facts_of (placing-keeps asks_places s h))))

-- ---- all

rest_with-asks : (w : Wants) (s : State) → Holds Asks s → Holds Asks (rest_with w s)
unfolding rest_with
rest_with-asks w s h = holds (rested-keeps asks_walk w s h)

ending-asks : (s : State) → Holds Asks s → Holds Asks (ending s)
unfolding ending
ending-asks s h = begin_replies-keeps asks_walk _ (come_to-asks DecidingAgain s h)

unhampered : (made : Option ℕ) (t : Bool) → (elim made as (λ c. Bool) [ Some who ↦ false | None ↦ t ]) ≡ true → t ≡ true
unhampered (Some who) t is = absurd (cc is)
unhampered None t is = is

room_for : (s : State) (n : ℕ) → IsPermitted s (Opened n) → length s.clients < 256
unfolding is_permitted permits
room_for s n is = below (length s.clients) 256 (second_holds (is_new_number s n) (accepts s) (second_holds (is_awaiting s) (may_open s n) (unhampered s.made_room_for (is_awaiting s && may_open s n) is)))

changed-asks : (s : State) (h : Happening) → IsPermitted s h → Holds Asks s → Holds Asks (changed s h)
unfolding changed
changed-asks s (Woke image) is h = woken-asks image s
changed-asks s (Waits w) is h = rest_with-asks w _ (ending-asks s h)
changed-asks s (Clock seconds) is h = event-asks _ (tick-keeps asks_walk seconds s h)
changed-asks s (Opened n) is h = event-asks _ (opened-asks n s (room_for s n is) h)
changed-asks s (CanRead n) is h = owing-asks (ReadOf n) n s h
changed-asks s (CanWrite n) is h = owing-asks (WriteTo n) n s h
changed-asks s (Heard c bytes) is h = paid-asks _ (hear-keeps asks_walk c bytes s h)
changed-asks s (HungUp c) is h = paid-asks _ (hang_up-keeps asks_walk c s h)
changed-asks s (Said c offered bytes) is h = paid-asks _ (said-asks c (length bytes) s h)
changed-asks s (Shut c) is h = shut-asks c _ (come_to-asks Connecting s h)
changed-asks s (Dialled n host port) is h = dialled-asks n host port (placing (come_to Connecting s)) (placing-keeps asks_places _ (come_to-asks Connecting s h))
changed-asks s (Undialled host port) is h = undialled-asks (placing (come_to Connecting s)) (placing-keeps asks_places _ (come_to-asks Connecting s h))
changed-asks s (Reached n) is h = event-asks _ (reached-asks n s h)
changed-asks s (Ended n) is h = paid-asks _ (gone-asks true n s h)
changed-asks s (Broke n) is h = paid-asks _ (gone-asks false n _ (event-asks s h))
changed-asks s (Asked n bytes) is h = paid-asks _ (ask-keeps asks_walk n (length bytes) s h)
changed-asks s (Got n bytes) is h = paid-asks _ (end_replies-keeps asks_walk _ (got-asks (length bytes) n bytes s h))
changed-asks s (Dropped n) is h = dropped-asks n _ (come_to-asks Connecting s h)
changed-asks s (NoneYet n) is h = paid-asks s h
changed-asks s (Began op) is h = begun_op-asks op s h
changed-asks s (Did op ok) is h = ended_op-asks op ok s h
changed-asks s (Unread name) is h = unread-asks name s h
changed-asks s (Noted remark) is h = noted-asks remark s h
changed-asks s (Rooted folder) is h = opened_to-asks IsRooted true s h
changed-asks s (Listed ok) is h = opened_to-asks IsListed ok s h
changed-asks s (Listens port ok) is h = opened_to-asks IsListening ok s h
changed-asks s (Configured file text) is h = configured-asks text s h
changed-asks s (Printed text) is h = h
changed-asks s Stopped is h = event-asks _ (holds (facts_of h))

pub after-asks : (s : State) (h : Happening) → IsPermitted s h → Holds Asks s → Holds Asks (after s h)
after-asks s h is asks = changed-asks s h is asks
