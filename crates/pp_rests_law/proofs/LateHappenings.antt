-- Each happening keeps which rows stand late.
use Rattle.std.proofs.Common.{◌≡◌, refl, ℕ, Bool, true, false, not, ◌&&◌, List, Option, Some, None, sym, subst}
use Rattle.pp_ask.specs.declared.kind.AskKind.{AskKind}
use Rattle.pp_conf.specs.Conf.{Settings}
use Rattle.pp_conf.specs.Words.{reading_of}
use Rattle.pp_head.specs.Request.{Request}
use Rattle.pp_target.specs.Key.{Key, text_of}
use Rattle.pp_world.specs.Files.{Files}
use Rattle.pp_world.specs.declared.note.Decision.{Decision}
use Rattle.pp_world.specs.declared.note.Decision.TheVariants.{Refuse, Hit, Part, Head, NotModified, Unsatisfiable, Relay, Validate, Fetch, Pass}
use Rattle.pp_world.specs.declared.note.Remark.{Remark}
use Rattle.pp_world.specs.declared.note.Remark.TheVariants.{Taken, Cut, Kept, Gone, Forgotten, Evicted, Loaded}
use Rattle.pp_world.specs.declared.op.DiskOp.{DiskOp}
use Rattle.pp_law.specs.After.{begun_op, dialled, dropped, ended_op, event, evicted, forgotten_by, gone, leave_memory, noted, opened, out, owing, paid, reached, refused_dial, refused_row, said, shut, take_decision, undialled, unread}
use Rattle.pp_law.specs.Asking.{ask, ask_body, ask_next, asked_text, asking, hang_up, hear, is_writing}
use Rattle.pp_law.specs.Closing.{is_of}
use Rattle.pp_law.specs.Connections.{client, conn, is_client, is_outstanding, may_ask_again, on_client_of, on_exchange, placing}
use Rattle.pp_law.specs.Deciding.{ask_as, ask_for, ask_origin, asking_with, decided, decided_by, follow, follow_row, follow_with, new_exchange, refuse, refused_with, relay}
use Rattle.pp_law.specs.Decisions.{kind_of}
use Rattle.pp_law.specs.Leaving.{Leaving, ForAnother, ForMemory, BeforeDecision, leaving_as}
use Rattle.pp_law.specs.Lists.{Bytes}
use Rattle.pp_law.specs.Opening.{are_texts, begun, is_opening, names_file, settings_in, with_settings, woken}
use Rattle.pp_law.specs.Phases.{deciding, due_victim, ending}
use Rattle.pp_law.specs.Replies.{begin_replies, close_finished, end_replies, end_reply, end_said, is_outrun, is_said, next_request, said_by}
use Rattle.pp_law.specs.Requests.{key_in}
use Rattle.pp_law.specs.State.{State, Client, Exchange, Instance, Free, Handling, IsWoken, Evicting, Keeping, DecidingAgain, Owed}
use Rattle.pp_law.specs.Table.{row, row_for}
use Rattle.pp_laws.specs.Runs.{IsIn}
use Rattle.pp_rests_law.proofs.LateAsks.{begin_exchange-keeps, close_client-keeps, each_client-keeps, end_exchange-keeps, fill-keeps, forsake-keeps, leave-keeps, lose_attempt-keeps, on_client-keeps, on_conn-keeps, placing-keeps, put_on-keeps}
use Rattle.pp_rests_law.proofs.LateCases.{by_front, by_pause, by_result, each_of, each_so, when}
use Rattle.pp_rests_law.proofs.LateHeads.{ended-keeps}
use Rattle.pp_rests_law.proofs.LateRows.{drop_chunk-keeps, forget-keeps, swept-keeps}
use Rattle.pp_rests_law.proofs.LateStore.{begin_in_opening-keeps, begin_in_turn-keeps, close_name-keeps, end_op-keeps, load-keeps, lose_in_opening-keeps, note_gone-keeps, note_kept-keeps}
use Rattle.pp_rests_law.proofs.LateTurns.{close_finished-keeps, come_to-keeps, come_to_decide-keeps, deciding-keeps, enter_row-keeps, in_phase-keeps, regained-keeps, touch-keeps, use_said-keeps}
use Rattle.pp_laws.proofs.Lists.{in_find}
use Rattle.pp_laws_fields.proofs.View.{AreOwn}
use Rattle.pp_rests_law.proofs.LateView.{AreLate, Holds, IsDone, Keys, MayCome, facts_of, holds, nothing}

-- ---- events

pub event-keeps : {late : Keys} (s : State) → Holds late s → Holds late (event s)
unfolding event
event-keeps s h = regained-keeps _ (in_phase-keeps Handling s refl h)

-- nothing is owed any more
freed : (b : Bool) (owed : Owed) → IsDone b owed → IsDone b Free
freed false owed done = tt
freed true owed done = refl

pub paid-keeps : {late : Keys} (s : State) → Holds late s → Holds late (paid s)
unfolding paid
paid-keeps {late} s h = regained-keeps _ (holds (record { own = (facts_of h).own; late = (facts_of h).late; amid = (facts_of h).amid; done = freed late.is_done s.owed (facts_of h).done }))

pub owing-keeps : (owed : Owed) (n : ℕ) (s : State) → Holds nothing s → Holds nothing (owing owed n s)
unfolding owing
owing-keeps owed n s h = holds (record { own = (facts_of (touch-keeps n s h)).own; late = (facts_of (touch-keeps n s h)).late; amid = tt; done = tt })

pub reached-keeps : {late : Keys} (n : ℕ) (s : State) → Holds late s → Holds late (reached n s)
unfolding reached
reached-keeps n s h = touch-keeps n _ (on_conn-keeps n (λ k. record k { is_reached = true }) s h)

pub opened-keeps : {late : Keys} (n : ℕ) (s : State) → Holds late s → Holds late (opened n s)
unfolding opened
opened-keeps n s h = holds (facts_of h)

-- ---- replies that begin, and are over

begin_replies-keeps : {late : Keys} (s : State) → Holds late s → Holds late (begin_replies s)
unfolding begin_replies
begin_replies-keeps s h = swept-keeps _ (forsake-keeps (is_outrun s) _ (holds (facts_of h)))

pub ending-keeps : {late : Keys} (s : State) → Holds late s → Holds late (ending s)
unfolding ending
ending-keeps s h = begin_replies-keeps _ (come_to-keeps DecidingAgain s h)

end_reply-keeps : {late : Keys} (c : Client) (s : State) → Holds late s → Holds late (end_reply c s)
unfolding end_reply
end_reply-keeps c s h = when c.closes (close_client-keeps c.number false s h) (swept-keeps _ (forsake-keeps (is_of c.number) _ (on_client-keeps c.number next_request s h)))

end_said-keeps : {late : Keys} (c : Client) (s : State) → Holds late s → Holds late (end_said c s)
unfolding end_said
end_said-keeps c s h = when (is_said c && not c.is_closing) (end_reply-keeps c s h) h

pub end_replies-keeps : {late : Keys} (s : State) → Holds late s → Holds late (end_replies s)
unfolding end_replies
end_replies-keeps s h = each_client-keeps close_finished close_finished-keeps _ _ (each_client-keeps end_said end_said-keeps _ s h)

-- ---- reads and writes

pub hear-keeps : {late : Keys} (n : ℕ) (bytes : Bytes) (s : State) → Holds late s → Holds late (hear n bytes s)
unfolding hear
hear-keeps n bytes s h = end_replies-keeps _ (on_client-keeps n _ s h)

pub hang_up-keeps : {late : Keys} (n : ℕ) (s : State) → Holds late s → Holds late (hang_up n s)
unfolding hang_up
hang_up-keeps n s h = when (is_writing s.owed n) (close_client-keeps n false s h) (end_replies-keeps _ (on_client-keeps n _ s h))

pub said-keeps : {late : Keys} (c n : ℕ) (s : State) → Holds late s → Holds late (said c n s)
unfolding said
said-keeps c n s h = each_of (client s c) h (λ x. end_replies-keeps _ (on_client-keeps c (said_by n) _ (use_said-keeps n x s h)))

pub gone-keeps : {late : Keys} (is_clean : Bool) (n : ℕ) (s : State) → Holds late s → Holds late (gone is_clean n s)
unfolding gone
gone-keeps is_clean n s h = each_of (conn s n) h (λ k. end_replies-keeps _ (ended-keeps is_clean k s h))

pub ask-keeps : {late : Keys} (k n : ℕ) (s : State) → Holds late s → Holds late (ask k n s)
unfolding ask ask_next ask_body on_client_of on_exchange
ask-keeps {late} k n s h = each_of (asking s k) h (λ e. by e (is_outstanding e))
  where
    by : (e : Exchange) (t : Bool) → Holds late (elim t as (λ c. State) [ false ↦ on_exchange e.number (asked_text n s.clock) s | true ↦ ask_body e n s ])
    by e false = holds (facts_of h)
    by e true = holds (facts_of h)

-- ---- decisions

refuse-keeps : {late : Keys} (c : Client) (status : ℕ) (s : State) → Holds late s → Holds late (refuse c status s)
unfolding refuse
refuse-keeps c status s h = swept-keeps _ (leave-keeps (is_of c.number) _ (on_client-keeps c.number (refused_with status) s h))

ask_for-keeps : {late : Keys} (c : Client) (d : Decision) (head : Request) (key : Key) (kind : AskKind) (s : State) → Holds late s → Holds late (ask_for c d head key kind s)
unfolding ask_for
ask_for-keeps c d head key kind s h = swept-keeps _ (begin_exchange-keeps (new_exchange s c head key d kind) _ (leave-keeps (is_of c.number) _ (on_client-keeps c.number (asking_with d) s h)))

ask_origin-keeps : {late : Keys} (c : Client) (d : Decision) (s : State) → Holds late s → Holds late (ask_origin c d s)
unfolding ask_origin ask_as
ask_origin-keeps c d s h = by_front c.front h (λ status. h) (λ r. by_result r.key (λ key. each_of (kind_of r.head (row_for s r.head (text_of key)) d) h (λ kind. ask_for-keeps c d r.head key kind s h)) (λ fault. h))

follow-keeps : {late : Keys} (c : Client) (d : Decision) (s : State) → Holds late s → Holds late (follow c d s)
unfolding follow follow_row follow_with
follow-keeps c d s h = each_of (key_in c.front) h (λ key. each_of (row s (text_of key)) h (λ x. swept-keeps _ (leave-keeps _ _ (on_client-keeps c.number _ s h))))

relay-keeps : {late : Keys} (c : Client) (s : State) → Holds late s → Holds late (relay c s)
unfolding relay
relay-keeps c s h = swept-keeps _ (on_client-keeps c.number _ s h)

decided_by-keeps : {late : Keys} (c : Client) (d : Decision) (s : State) → Holds late s → Holds late (decided_by c d s)
unfolding decided_by
decided_by-keeps c (Refuse status) s h = refuse-keeps c status s h
decided_by-keeps c Pass s h = ask_origin-keeps c Pass s h
decided_by-keeps c Fetch s h = ask_origin-keeps c Fetch s h
decided_by-keeps c Validate s h = ask_origin-keeps c Validate s h
decided_by-keeps c Relay s h = relay-keeps c s h
decided_by-keeps c (Hit from to) s h = follow-keeps c (Hit from to) s h
decided_by-keeps c (Part from to) s h = follow-keeps c (Part from to) s h
decided_by-keeps c Head s h = follow-keeps c Head s h
decided_by-keeps c NotModified s h = follow-keeps c NotModified s h
decided_by-keeps c Unsatisfiable s h = follow-keeps c Unsatisfiable s h

take_decision-keeps : {late : Keys} (n : ℕ) (d : Decision) (s : State) → ((c : Client) → client s n ≡ Some c → (key : Key) → key_in c.front ≡ Some key → MayCome late false (text_of key)) → Holds late s → Holds late (take_decision n d s)
unfolding take_decision decided
take_decision-keeps n d s may h = each_so (client s n) (λ none. h) (λ c is. regained-keeps _ (holds (facts_of (decided_by-keeps c d _ (enter_row-keeps c d s (may c is) h)))))

-- ---- rows and chunks leave

evicted-keeps : {late : Keys} (s : State) → Holds late s → Holds late (evicted s)
unfolding evicted
evicted-keeps s h = each_of (due_victim s) h (λ place. drop_chunk-keeps place.0 place.1 s h)

refused_row-keeps : {late : Keys} (x : Instance) (s : State) → Holds late s → Holds late (refused_row x s)
unfolding refused_row
refused_row-keeps x s h = holds (facts_of (forget-keeps x.id s h))

leave_memory-keeps : {late : Keys} (how : Leaving) (s : State) → Holds late s → Holds late (leave_memory how s)
unfolding leave_memory
leave_memory-keeps ForAnother s h = holds (facts_of (come_to-keeps Evicting s h))
leave_memory-keeps (ForMemory x) s h = refused_row-keeps x _ (come_to-keeps Evicting s h)
leave_memory-keeps (BeforeDecision x) s h = holds (facts_of (forget-keeps x.id _ (come_to_decide-keeps s h)))

forgotten_by-keeps : {late : Keys} (key : Bytes) (s : State) → Holds late s → Holds late (forgotten_by key s)
unfolding forgotten_by
forgotten_by-keeps key s h = each_of (leaving_as s key) h (λ how. leave_memory-keeps how s h)

pub noted-keeps : {late : Keys} (remark : Remark) (s : State) → ((c : Client) → IsIn c (deciding s).clients → (key : Key) → key_in c.front ≡ Some key → MayCome late false (text_of key)) → Holds late s → Holds late (noted remark s)
unfolding noted
noted-keeps (Taken c i d) s may h = take_decision-keeps c d _ (λ x is. may x (in_find (is_client c) x (deciding s).clients is).0) (deciding-keeps s h)
noted-keeps (Cut c cause) s may h = close_client-keeps c true _ (deciding-keeps s h)
noted-keeps (Kept key tag n extent) s may h = note_kept-keeps key extent s h
noted-keeps (Gone key) s may h = note_gone-keeps key _ (come_to-keeps Keeping s h)
noted-keeps (Forgotten key) s may h = forgotten_by-keeps key s h
noted-keeps (Evicted key tag n i) s may h = evicted-keeps _ (come_to-keeps Evicting s h)
noted-keeps (Loaded key tag n i) s may h = load-keeps key i s h

-- ---- the disk, and the opening

pub begun_op-keeps : {late : Keys} (op : DiskOp) (s : State) → Holds late s → Holds late (begun_op op s)
unfolding begun_op
begun_op-keeps op s h = when (is_opening s) (begin_in_opening-keeps op s h) (begin_in_turn-keeps op _ (come_to-keeps Keeping s h))

pub ended_op-keeps : {late : Keys} (op : DiskOp) (ok : Bool) (s : State) → Holds late s → Holds late (ended_op op ok s)
unfolding ended_op
ended_op-keeps op true s h = end_op-keeps op true s h
ended_op-keeps op false s h = lose_in_opening-keeps s.agenda.name _ (end_op-keeps op false s h)

pub unread-keeps : {late : Keys} (name : Bytes) (s : State) → Holds late s → Holds late (unread name s)
unfolding unread
unread-keeps name s h = paid-keeps _ (lose_in_opening-keeps name _ (close_name-keeps name s h))

pub again : (s t : State) → t.instances ≡ s.instances → t.next_instance ≡ s.next_instance → Holds nothing s → Holds nothing t
again s t rows next h =
    let own : AreOwn t.instances t.next_instance = subst (λ (xs : List Instance). AreOwn xs t.next_instance) (sym rows) (subst (λ (n : ℕ). AreOwn s.instances n) (sym next) (facts_of h).own) in
    holds (record { own = own; late = subst (λ (xs : List Instance). AreLate None xs) (sym rows) (facts_of h).late; amid = tt; done = tt })

begun-keeps : (s : State) → Holds nothing s → Holds nothing (begun s)
unfolding begun with_settings
begun-keeps s h = by (are_texts s.term) (names_file s.term)
  where
    set : (o : Option Settings) → Holds nothing (with_settings o s)
    set None = again s _ refl refl h
    set (Some c) = again s _ refl refl h

    by : (t u : Bool) → Holds nothing (elim t as (λ c. State) [
      | false ↦ with_settings None s
      | true ↦ elim u as (λ c. State) [ true ↦ record s { phase = IsWoken } | false ↦ with_settings (settings_in (reading_of s.term.words None)) s ]
    ])
    by false u = set None
    by true true = again s _ refl refl h
    by true false = set (settings_in (reading_of s.term.words None))

pub woken-keeps : (image : Files) (s : State) → Holds nothing (woken image s)
unfolding woken
woken-keeps image s = begun-keeps _ (holds (record { own = record { differ = tt; given = λ x i. absurd i }; late = λ x i. absurd i; amid = tt; done = tt }))

-- ---- closings and places

pub shut-keeps : {late : Keys} (n : ℕ) (s : State) → Holds late s → Holds late (shut n s)
unfolding shut
shut-keeps n s h = holds (facts_of (close_client-keeps n false s h))

pub dialled-keeps : {late : Keys} (n : ℕ) (host : Bytes) (port : ℕ) (s : State) → Holds late s → Holds late (dialled n host port (placing s))
unfolding dialled
dialled-keeps n host port s h = by_pause (placing s).pause (placing-keeps s h) (λ k e. placing-keeps s h) (λ e. put_on-keeps e.number n _ (holds (facts_of (placing-keeps s h))))

refused_dial-keeps : {late : Keys} (e : Exchange) (s : State) → Holds late s → Holds late (refused_dial e s)
unfolding refused_dial
refused_dial-keeps e s h = when (may_ask_again s e.number) h (fill-keeps _ (end_exchange-keeps e.number s h))

pub undialled-keeps : {late : Keys} (s : State) → Holds late s → Holds late (undialled (placing s))
unfolding undialled
undialled-keeps s h = by_pause (placing s).pause (placing-keeps s h) (λ k e. placing-keeps s h) (λ e. refused_dial-keeps e _ (lose_attempt-keeps e _ (holds (facts_of (placing-keeps s h)))))

out-keeps : {late : Keys} (n : ℕ) (s : State) → Holds late s → Holds late (out n s)
unfolding out
out-keeps n s h = holds (facts_of h)

pub dropped-keeps : {late : Keys} (n : ℕ) (s : State) → Holds late s → Holds late (dropped n s)
unfolding dropped
dropped-keeps n s h = each_of (conn s n) h (λ k. when k.is_closing (out-keeps n s h) (out-keeps n _ (placing-keeps s h)))
