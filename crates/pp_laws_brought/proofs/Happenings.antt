-- Each happening keeps what is still to come.
use Rattle.std.proofs.Common.{◌-◌, ◌++◌, ◌≡◌, refl, ℕ, Bool, true, false, not, ◌&&◌, [], ◌∷◌, length, Option, Some, None}
use Rattle.pp_ask.specs.declared.kind.AskKind.{AskKind}
use Rattle.pp_conf.specs.Conf.{Settings}
use Rattle.pp_conf.specs.Words.{reading_of}
use Rattle.pp_head.specs.Request.{Request}
use Rattle.pp_target.specs.Key.{Key, text_of}
use Rattle.pp_world.specs.Files.{Files}
use Rattle.pp_world.specs.declared.happening.Happening.{Happening}
use Rattle.pp_world.specs.declared.happening.Happening.TheVariants.{Woke, Waits, Clock, Opened, CanRead, CanWrite, Heard, HungUp, Said, Shut, Dialled, Undialled, Reached, Ended, Broke, Asked, Got, Dropped, NoneYet, Began, Did, Unread, Noted, Rooted, Listed, Listens, Configured, Printed, Stopped}
use Rattle.pp_world.specs.declared.note.Decision.{Decision}
use Rattle.pp_world.specs.declared.note.Decision.TheVariants.{Refuse, Hit, Part, Head, NotModified, Unsatisfiable, Relay, Validate, Fetch, Pass}
use Rattle.pp_world.specs.declared.note.Remark.{Remark}
use Rattle.pp_world.specs.declared.note.Remark.TheVariants.{Taken, Cut, Kept, Gone, Forgotten, Evicted, Loaded}
use Rattle.pp_world.specs.declared.op.DiskOp.{DiskOp}
use Rattle.pp_law.specs.After.{brings_to, dropping_body, new_conn, begun_op, changed, dialled, dropped, ended_op, event, evicted, forgotten_by, gone, leave_memory, noted, opened, out, owing, paid, reached, refused_dial, refused_row, said, shut, take_decision, undialled, unread}
use Rattle.pp_law.specs.Asking.{ask, ask_body, ask_next, asked_body, asked_text, asking, hang_up, hear, is_writing}
use Rattle.pp_law.specs.Closing.{is_of}
use Rattle.pp_law.specs.Connections.{Pause, AllPlaced, WaitsDial, WaitsDrop, is_conn, put_on, client, conn, is_outstanding, may_ask_again, on_exchange, placing}
use Rattle.pp_law.specs.Deciding.{ask_as, ask_for, ask_origin, asking_with, decided, decided_by, follow, follow_row, follow_with, new_exchange, refuse, refused_with, relay}
use Rattle.pp_law.specs.Decisions.{kind_of}
use Rattle.pp_law.specs.Leaving.{Leaving, ForAnother, ForMemory, BeforeDecision, leaving_as}
use Rattle.pp_law.specs.Lists.{Bytes}
use Rattle.pp_law.specs.Opening.{are_texts, begun, is_opening, names_file, settings_in, with_settings, woken}
use Rattle.pp_law.specs.Phases.{due_victim, ending}
use Rattle.pp_law.specs.Replies.{begin_replies, close_finished, end_replies, end_reply, end_said, is_outrun, is_said, next_request, said_by}
use Rattle.pp_law.specs.Requests.{key_in}
use Rattle.pp_law.specs.State.{State, Client, Exchange, Instance, IsListed, IsListening, IsRooted, IsWoken, Evicting, Keeping, Connecting, DecidingAgain, ReadOf, WriteTo, Owed}
use Rattle.pp_law.specs.Table.{forget, row, row_for}
use Rattle.pp_laws.proofs.Places.{IsReady, placing-dial}
use Rattle.pp_laws.proofs.Sound.{Since, Sound}
use Rattle.pp_laws.proofs.Steps.{come_to-sound}
use Rattle.pp_laws_brought.proofs.Asks.{changed-asks, on_client_of-keeps, begin_exchange-keeps, close_client-keeps, each_client-keeps, end_exchange-keeps, fill-keeps, forsake-keeps, leave-keeps, lose_attempt-keeps, on_client-keeps, on_conn-keeps, on_exchange-keeps, as_bound, as_lined, placing-keeps, put_on-keeps}
use Rattle.pp_laws_brought.proofs.Cases.{by_front, by_pause, by_result, each_of, when}
use Rattle.pp_laws_brought.proofs.Ends.{ended-keeps}
use Rattle.pp_laws_brought.proofs.Got.{got-keeps}
use Rattle.pp_laws_brought.proofs.Rows.{drop_chunk-keeps, forget-keeps, swept-keeps}
use Rattle.pp_laws_brought.proofs.Store.{begin_in_opening-keeps, begin_in_turn-keeps, close_name-keeps, configured-keeps, end_op-keeps, load-keeps, lose_in_opening-keeps, note_gone-keeps, note_kept-keeps, opened_to-keeps}
use Rattle.pp_laws_brought.proofs.Turns.{close_finished-keeps, come_to-keeps, come_to_decide-keeps, deciding-keeps, enter_row-keeps, in_phase-keeps, regained-keeps, rest_with-keeps, tick-keeps, touch-keeps, use_said-keeps}
use Rattle.pp_laws_brought.proofs.View.{Apart, Holds, conn_pushed, conns_filtered, facts_of, holds, plain}

-- ---- events

event-keeps : {but : Apart} (s : State) → Holds but s → Holds but (event s)
unfolding event
event-keeps s h = regained-keeps _ (in_phase-keeps _ s h)

paid-keeps : {but : Apart} (s : State) → Holds but s → Holds but (paid s)
unfolding paid
paid-keeps s h = regained-keeps _ (holds (facts_of h))

owing-keeps : {but : Apart} (owed : Owed) (n : ℕ) (s : State) → Holds but s → Holds but (owing owed n s)
unfolding owing
owing-keeps owed n s h = holds (facts_of (touch-keeps n s h))

reached-keeps : {but : Apart} (n : ℕ) (s : State) → Holds but s → Holds but (reached n s)
unfolding reached
reached-keeps n s h = touch-keeps n _ (on_conn-keeps n (λ k. record k { is_reached = true }) s (λ k. as_lined _ k refl refl refl) h)

opened-keeps : {but : Apart} (n : ℕ) (s : State) → Holds but s → Holds but (opened n s)
unfolding opened
opened-keeps n s h = holds (facts_of h)

-- ---- replies that begin, and are over

begin_replies-keeps : {but : Apart} (s : State) → Holds but s → Holds but (begin_replies s)
unfolding begin_replies
begin_replies-keeps s h = swept-keeps _ (forsake-keeps (is_outrun s) _ (holds (facts_of h)))

ending-keeps : {b : Since} (s : State) → Sound b s → Holds None s → Holds None (ending s)
unfolding ending
ending-keeps s was h = begin_replies-keeps _ (come_to-keeps DecidingAgain s was h)

end_reply-keeps : {but : Apart} (c : Client) (s : State) → Holds but s → Holds but (end_reply c s)
unfolding end_reply
end_reply-keeps c s h = when c.closes (close_client-keeps c.number false s h) (swept-keeps _ (forsake-keeps (is_of c.number) _ (on_client-keeps c.number next_request s h)))

end_said-keeps : {but : Apart} (c : Client) (s : State) → Holds but s → Holds but (end_said c s)
unfolding end_said
end_said-keeps c s h = when (is_said c && not c.is_closing) (end_reply-keeps c s h) h

end_replies-keeps : {but : Apart} (s : State) → Holds but s → Holds but (end_replies s)
unfolding end_replies
end_replies-keeps s h = each_client-keeps close_finished close_finished-keeps _ _ (each_client-keeps end_said end_said-keeps _ s h)

-- ---- reads and writes

hear-keeps : {but : Apart} (n : ℕ) (bytes : Bytes) (s : State) → Holds but s → Holds but (hear n bytes s)
unfolding hear
hear-keeps n bytes s h = end_replies-keeps _ (on_client-keeps n _ s h)

hang_up-keeps : {but : Apart} (n : ℕ) (s : State) → Holds but s → Holds but (hang_up n s)
unfolding hang_up
hang_up-keeps n s h = when (is_writing s.owed n) (close_client-keeps n false s h) (end_replies-keeps _ (on_client-keeps n _ s h))

said-keeps : {but : Apart} (c n : ℕ) (s : State) → Holds but s → Holds but (said c n s)
unfolding said
said-keeps c n s h = each_of (client s c) h (λ x. end_replies-keeps _ (on_client-keeps c (said_by n) _ (use_said-keeps n x s h)))

gone-keeps : {but : Apart} (is_clean : Bool) (n : ℕ) (s : State) → Holds but s → Holds but (gone is_clean n s)
unfolding gone
gone-keeps is_clean n s h = each_of (conn s n) h (λ k. end_replies-keeps _ (ended-keeps is_clean k s h))

body_asked : {but : Apart} (e : Exchange) (n : ℕ) (s : State) → Holds but s → Holds but (ask_body e n s)
unfolding ask_body
body_asked e n s h = on_client_of-keeps e (asked_body n) _ (on_exchange-keeps e.number (λ x. record x { body_left = x.body_left - n }) s (λ x. as_bound _ x refl refl) h)

ask-keeps : {but : Apart} (k n : ℕ) (s : State) → Holds but s → Holds but (ask k n s)
unfolding ask ask_next
ask-keeps {but} k n s h = each_of (asking s k) h (λ e. by e (is_outstanding e))
  where
    by : (e : Exchange) (t : Bool) → Holds but (elim t as (λ c. State) [ false ↦ on_exchange e.number (asked_text n s.clock) s | true ↦ ask_body e n s ])
    by e false = on_exchange-keeps e.number (asked_text n s.clock) s (λ x. as_bound _ x refl refl) h
    by e true = body_asked e n s h

-- ---- decisions

refuse-keeps : {but : Apart} (c : Client) (status : ℕ) (s : State) → Holds but s → Holds but (refuse c status s)
unfolding refuse
refuse-keeps c status s h = swept-keeps _ (leave-keeps (is_of c.number) _ (on_client-keeps c.number (refused_with status) s h))

ask_for-keeps : {but : Apart} (c : Client) (d : Decision) (head : Request) (key : Key) (kind : AskKind) (s : State) → Holds but s → Holds but (ask_for c d head key kind s)
unfolding ask_for
ask_for-keeps c d head key kind s h = swept-keeps _ (begin_exchange-keeps (new_exchange s c head key d kind) _ refl (leave-keeps (is_of c.number) _ (on_client-keeps c.number (asking_with d) s h)))

ask_origin-keeps : {but : Apart} (c : Client) (d : Decision) (s : State) → Holds but s → Holds but (ask_origin c d s)
unfolding ask_origin ask_as
ask_origin-keeps c d s h = by_front c.front h (λ status. h) (λ r. by_result r.key (λ key. each_of (kind_of r.head (row_for s r.head (text_of key)) d) h (λ kind. ask_for-keeps c d r.head key kind s h)) (λ fault. h))

follow-keeps : {but : Apart} (c : Client) (d : Decision) (s : State) → Holds but s → Holds but (follow c d s)
unfolding follow follow_row follow_with
follow-keeps c d s h = each_of (key_in c.front) h (λ key. each_of (row s (text_of key)) h (λ x. swept-keeps _ (leave-keeps _ _ (on_client-keeps c.number _ s h))))

relay-keeps : {but : Apart} (c : Client) (s : State) → Holds but s → Holds but (relay c s)
unfolding relay
relay-keeps c s h = swept-keeps _ (on_client-keeps c.number _ s h)

decided_by-keeps : {but : Apart} (c : Client) (d : Decision) (s : State) → Holds but s → Holds but (decided_by c d s)
unfolding decided_by
decided_by-keeps c (Refuse status) s h = refuse-keeps c status s h
decided_by-keeps c Pass s h = ask_origin-keeps c Pass s h
decided_by-keeps c Fetch s h = ask_origin-keeps c Fetch s h
decided_by-keeps c Validate s h = ask_origin-keeps c Validate s h
decided_by-keeps c Relay s h = relay-keeps c s h
decided_by-keeps c (Hit from to) s h = follow-keeps c (Hit from to) s h
decided_by-keeps c (Part from to) s h = follow-keeps c (Part from to) s h
decided_by-keeps c Head s h = follow-keeps c Head s h
decided_by-keeps c NotModified s h = follow-keeps c NotModified s h
decided_by-keeps c Unsatisfiable s h = follow-keeps c Unsatisfiable s h

take_decision-keeps : {but : Apart} (n : ℕ) (d : Decision) (s : State) → Holds but s → Holds but (take_decision n d s)
unfolding take_decision decided
take_decision-keeps n d s h = each_of (client s n) h (λ c. regained-keeps _ (holds (facts_of (decided_by-keeps c d _ (enter_row-keeps c d s h)))))

-- ---- rows and chunks leave

evicted-keeps : {but : Apart} (s : State) → Holds but s → Holds but (evicted s)
unfolding evicted
evicted-keeps s h = each_of (due_victim s) h (λ place. drop_chunk-keeps place.0 place.1 s h)

refused_row-keeps : {but : Apart} (x : Instance) (s : State) → Holds but s → Holds but (refused_row x s)
unfolding refused_row
refused_row-keeps x s h =
    holds (changed-asks (brings_to x.id) dropping_body (forget x.id s).conns (forget x.id s).exchanges (λ e. record { number = refl; bound = λ b is. absurd (cc is) }) (facts_of (forget-keeps x.id s h)))

leave_memory-keeps : {b : Since} (how : Leaving) (s : State) → Sound b s → Holds None s → Holds None (leave_memory how s)
unfolding leave_memory
leave_memory-keeps ForAnother s was h = holds (facts_of (come_to-keeps Evicting s was h))
leave_memory-keeps (ForMemory x) s was h = refused_row-keeps x _ (come_to-keeps Evicting s was h)
leave_memory-keeps (BeforeDecision x) s was h = holds (facts_of (forget-keeps x.id _ (come_to_decide-keeps s was h)))

forgotten_by-keeps : {b : Since} (key : Bytes) (s : State) → Sound b s → Holds None s → Holds None (forgotten_by key s)
unfolding forgotten_by
forgotten_by-keeps key s was h = each_of (leaving_as s key) h (λ how. leave_memory-keeps how s was h)

noted-keeps : {b : Since} (remark : Remark) (s : State) → Sound b s → Holds None s → Holds None (noted remark s)
unfolding noted
noted-keeps (Taken c i d) s was h = take_decision-keeps c d _ (deciding-keeps s was h)
noted-keeps (Cut c cause) s was h = close_client-keeps c true _ (deciding-keeps s was h)
noted-keeps (Kept key tag n extent) s was h = note_kept-keeps key extent s h
noted-keeps (Gone key) s was h = note_gone-keeps key _ (come_to-keeps Keeping s was h)
noted-keeps (Forgotten key) s was h = forgotten_by-keeps key s was h
noted-keeps (Evicted key tag n i) s was h = evicted-keeps _ (come_to-keeps Evicting s was h)
noted-keeps (Loaded key tag n i) s was h = load-keeps key i s h

-- ---- the disk, and the opening

begun_op-keeps : {b : Since} (op : DiskOp) (s : State) → Sound b s → Holds None s → Holds None (begun_op op s)
unfolding begun_op
begun_op-keeps op s was h = when (is_opening s) (begin_in_opening-keeps op s h) (begin_in_turn-keeps op _ (come_to-keeps Keeping s was h))

ended_op-keeps : {but : Apart} (op : DiskOp) (ok : Bool) (s : State) → Holds but s → Holds but (ended_op op ok s)
unfolding ended_op
ended_op-keeps op true s h = end_op-keeps op true s h
ended_op-keeps op false s h = lose_in_opening-keeps s.agenda.name _ (end_op-keeps op false s h)

unread-keeps : {but : Apart} (name : Bytes) (s : State) → Holds but s → Holds but (unread name s)
unfolding unread
unread-keeps name s h = paid-keeps _ (lose_in_opening-keeps name _ (close_name-keeps name s h))

begun-keeps : {but : Apart} (s : State) → Holds but s → Holds but (begun s)
unfolding begun with_settings
begun-keeps {but} s h = by (are_texts s.term) (names_file s.term)
  where
    set : (o : Option Settings) → Holds but (with_settings o s)
    set None = holds (facts_of h)
    set (Some c) = holds (facts_of h)

    by : (t u : Bool) → Holds but (elim t as (λ c. State) [
      | false ↦ with_settings None s
      | true ↦ elim u as (λ c. State) [ true ↦ record s { phase = IsWoken } | false ↦ with_settings (settings_in (reading_of s.term.words None)) s ]
    ])
    by false u = set None
    by true true = holds (facts_of h)
    by true false = set (settings_in (reading_of s.term.words None))

woken-keeps : (image : Files) (s : State) → Holds None (woken image s)
unfolding woken
woken-keeps image s = begun-keeps _ (holds (plain [] [] (λ k e a b i j l is bound. absurd i) (λ e b i bound. absurd i)))

-- ---- closings and places

shut-keeps : {but : Apart} (n : ℕ) (s : State) → Holds but s → Holds but (shut n s)
unfolding shut
shut-keeps n s h = holds (facts_of (close_client-keeps n false s h))

dialled_at : (n : ℕ) (host : Bytes) (port : ℕ) (s : State) (pause : Pause) → ((e : Exchange) → pause ≡ WaitsDial e → IsReady e.number s) → Holds None s
    → Holds None (elim pause as (λ c. State) [
      | AllPlaced ↦ s
      | WaitsDrop k e ↦ s
      | WaitsDial e ↦ put_on e.number n (record s { conns = s.conns ++ new_conn n host port s.clock ∷ []; top = n })
    ])
dialled_at n host port s AllPlaced ready h = h
dialled_at n host port s (WaitsDrop k e) ready h = h
dialled_at n host port s (WaitsDial e) ready h = put_on-keeps e.number n _ (ready e refl).unbound (holds (conn_pushed (new_conn n host port s.clock) s.conns s.exchanges refl (facts_of h)))

dialled-keeps : {b : Since} (n : ℕ) (host : Bytes) (port : ℕ) (s : State) → Sound b s → Holds None s → Holds None (dialled n host port (placing s))
unfolding dialled
dialled-keeps n host port s was h = dialled_at n host port (placing s).state (placing s).pause (λ e is. placing-dial s was e is) (placing-keeps s was h)

refused_dial-keeps : {but : Apart} (e : Exchange) (s : State) → Holds but s → Holds but (refused_dial e s)
unfolding refused_dial
refused_dial-keeps e s h = when (may_ask_again s e.number) h (fill-keeps _ (end_exchange-keeps e.number s h))

undialled-keeps : {b : Since} (s : State) → Sound b s → Holds None s → Holds None (undialled (placing s))
unfolding undialled
undialled-keeps s was h = by_pause (placing s).pause (placing-keeps s was h) (λ k e. placing-keeps s was h) (λ e. refused_dial-keeps e _ (lose_attempt-keeps e _ (holds (facts_of (placing-keeps s was h)))))

out-keeps : (n : ℕ) (s : State) → Holds None s → Holds None (out n s)
unfolding out
out-keeps n s h = holds (conns_filtered (λ k. not (is_conn n k)) s.conns s.exchanges (facts_of h))

dropped-keeps : {b : Since} (n : ℕ) (s : State) → Sound b s → Holds None s → Holds None (dropped n s)
unfolding dropped
dropped-keeps n s was h = each_of (conn s n) h (λ k. when k.is_closing (out-keeps n s h) (out-keeps n _ (placing-keeps s was h)))

-- ---- all

pub changed-keeps : {b : Since} (s : State) (happening : Happening) → b.excepts ≡ None → Sound b s → Holds None s → Holds None (changed s happening)
unfolding changed
changed-keeps s (Woke image) none was h = woken-keeps image s
changed-keeps s (Waits w) none was h = rest_with-keeps w _ (ending-keeps s was h)
changed-keeps s (Clock seconds) none was h = event-keeps _ (tick-keeps seconds s h)
changed-keeps s (Opened n) none was h = event-keeps _ (opened-keeps n s h)
changed-keeps s (CanRead n) none was h = event-keeps _ (owing-keeps (ReadOf n) n s h)
changed-keeps s (CanWrite n) none was h = event-keeps _ (owing-keeps (WriteTo n) n s h)
changed-keeps s (Heard c bytes) none was h = paid-keeps _ (hear-keeps c bytes s h)
changed-keeps s (HungUp c) none was h = paid-keeps _ (hang_up-keeps c s h)
changed-keeps s (Said c offered bytes) none was h = paid-keeps _ (said-keeps c (length bytes) s h)
changed-keeps s (Shut c) none was h = shut-keeps c _ (come_to-keeps Connecting s was h)
changed-keeps s (Dialled n host port) none was h = dialled-keeps n host port _ (come_to-sound Connecting s was) (come_to-keeps Connecting s was h)
changed-keeps s (Undialled host port) none was h = undialled-keeps _ (come_to-sound Connecting s was) (come_to-keeps Connecting s was h)
changed-keeps s (Reached k) none was h = event-keeps _ (reached-keeps k s h)
changed-keeps s (Ended k) none was h = paid-keeps _ (gone-keeps true k s h)
changed-keeps s (Broke k) none was h = paid-keeps _ (gone-keeps false k _ (event-keeps s h))
changed-keeps s (Asked k bytes) none was h = paid-keeps _ (ask-keeps k (length bytes) s h)
changed-keeps s (Got k bytes) none was h = paid-keeps _ (end_replies-keeps _ (got-keeps (length bytes) k bytes s none was h))
changed-keeps s (Dropped k) none was h = dropped-keeps k _ (come_to-sound Connecting s was) (come_to-keeps Connecting s was h)
changed-keeps s (NoneYet n) none was h = paid-keeps s h
changed-keeps s (Began op) none was h = begun_op-keeps op s was h
changed-keeps s (Did op ok) none was h = ended_op-keeps op ok s h
changed-keeps s (Unread name) none was h = unread-keeps name s h
changed-keeps s (Noted remark) none was h = noted-keeps remark s was h
changed-keeps s (Rooted folder) none was h = opened_to-keeps IsRooted true s h
changed-keeps s (Listed ok) none was h = opened_to-keeps IsListed ok s h
changed-keeps s (Listens port ok) none was h = opened_to-keeps IsListening ok s h
changed-keeps s (Configured file text) none was h = configured-keeps text s h
changed-keeps s (Printed text) none was h = h
changed-keeps s Stopped none was h = event-keeps _ (holds (facts_of h))
