-- Each happening keeps what is asked of rows.
use Rattle.std.proofs.Common.{◌≡◌, refl, ℕ, Bool, true, false, not, ◌&&◌, List, [], ◌∷◌, filter_map, take, length, bytes_eq, Option, Some, None, option_and_then, inl, inr, sym, subst, ap, ◌∙◌}
use Rattle.std.specs.List.{cons_option}
use Rattle.pp_ask.specs.declared.kind.AskKind.{AskKind}
use Rattle.pp_conf.specs.Conf.{Settings}
use Rattle.pp_conf.specs.Words.{reading_of}
use Rattle.pp_entry.specs.Entries.{Row, row_at}
use Rattle.pp_entry.specs.Gates.{has_extent}
use Rattle.pp_head.specs.Request.{Request}
use Rattle.pp_objects.specs.Kept.{kept_of}
use Rattle.pp_target.specs.Key.{Key, text_of}
use Rattle.pp_target.specs.Name.{name_of}
use Rattle.pp_world.specs.Files.{Files}
use Rattle.pp_world.specs.declared.happening.Happening.{Happening}
use Rattle.pp_world.specs.declared.happening.Happening.TheVariants.{Woke, Waits, Clock, Opened, CanRead, CanWrite, Heard, HungUp, Said, Shut, Dialled, Undialled, Reached, Ended, Broke, Asked, Got, Dropped, NoneYet, Began, Did, Unread, Noted, Rooted, Listed, Listens, Configured, Printed, Stopped}
use Rattle.pp_world.specs.declared.note.Decision.{Decision}
use Rattle.pp_world.specs.declared.note.Decision.TheVariants.{Refuse, Hit, Part, Head, NotModified, Unsatisfiable, Relay, Validate, Fetch, Pass}
use Rattle.pp_world.specs.declared.note.Remark.{Remark}
use Rattle.pp_world.specs.declared.note.Remark.TheVariants.{Taken, Cut, Kept, Gone, Forgotten, Evicted, Loaded}
use Rattle.pp_world.specs.declared.op.DiskOp.{DiskOp}
use Rattle.pp_law.specs.After.{begun_op, changed, dialled, dropped, ended_op, event, evicted, forgotten_by, gone, leave_memory, noted, opened, out, owing, paid, reached, refused_dial, refused_row, said, shut, take_decision, undialled, unread}
use Rattle.pp_law.specs.Asking.{ask, ask_body, ask_next, asked_text, asking, hang_up, hear, is_writing}
use Rattle.pp_law.specs.Closing.{is_of}
use Rattle.pp_law.specs.Connections.{client, conn, is_outstanding, may_ask_again, on_client_of, on_exchange, placing}
use Rattle.pp_law.specs.Deciding.{ask_as, ask_for, ask_origin, asking_with, decided, decided_by, follow, follow_row, follow_with, new_exchange, refuse, refused_with, relay}
use Rattle.pp_law.specs.Decisions.{kind_of}
use Rattle.pp_law.specs.Entries.{entries_in, entry_in, entry_with, kept_in}
use Rattle.pp_law.specs.Leaving.{Leaving, ForAnother, ForMemory, BeforeDecision, leaving_as}
use Rattle.pp_law.specs.Lists.{Bytes}
use Rattle.pp_law.specs.Opening.{are_texts, begun, is_opening, names_file, settings_in, with_settings, woken}
use Rattle.pp_law.specs.Phases.{due_victim, ending}
use Rattle.pp_law.specs.Replies.{begin_replies, close_finished, end_replies, end_reply, end_said, is_outrun, is_said, next_request, said_by}
use Rattle.pp_law.specs.Requests.{key_in}
use Rattle.pp_law.specs.State.{State, Client, Entry, Exchange, Instance, IsListed, IsListening, IsRooted, IsWoken, Evicting, Keeping, Connecting, DecidingAgain, ReadOf, WriteTo, Owed}
use Rattle.pp_law.specs.Table.{row, row_for}
use Rattle.pp_laws.specs.Runs.{IsIn}
use Rattle.pp_laws_fields.proofs.Asks.{begin_exchange-keeps, close_client-keeps, each_client-keeps, end_exchange-keeps, fill-keeps, forsake-keeps, leave-keeps, lose_attempt-keeps, on_client-keeps, on_conn-keeps, placing-keeps, put_on-keeps}
use Rattle.pp_laws_fields.proofs.Cases.{by_front, by_pause, by_result, each_of, when}
use Rattle.pp_laws_fields.proofs.Heads.{ended-keeps, got-keeps}
use Rattle.pp_laws_fields.proofs.Rows.{drop_chunk-keeps, forget-keeps, swept-keeps}
use Rattle.pp_laws_fields.proofs.Store.{begin_in_opening-keeps, begin_in_turn-keeps, close_name-keeps, configured-keeps, end_op-keeps, load-keeps, lose_in_opening-keeps, note_gone-keeps, note_kept-keeps, opened_to-keeps}
use Rattle.pp_laws_fields.proofs.Turns.{close_finished-keeps, come_to-keeps, come_to_decide-keeps, deciding-keeps, enter_row-keeps, in_phase-keeps, regained-keeps, rest_with-keeps, tick-keeps, touch-keeps, use_said-keeps}
use Rattle.pp_laws_fields.proofs.View.{Closed, Holds, Like, OfEntry, facts_of, holds}

-- ---- events

event-keeps : {R : Like} (s : State) → Holds R s → Holds R (event s)
unfolding event
event-keeps s h = regained-keeps _ (in_phase-keeps _ s h)

paid-keeps : {R : Like} (s : State) → Holds R s → Holds R (paid s)
unfolding paid
paid-keeps s h = regained-keeps _ (holds (facts_of h))

owing-keeps : {R : Like} (owed : Owed) (n : ℕ) (s : State) → Holds R s → Holds R (owing owed n s)
unfolding owing
owing-keeps owed n s h = holds (facts_of (touch-keeps n s h))

reached-keeps : {R : Like} (n : ℕ) (s : State) → Holds R s → Holds R (reached n s)
unfolding reached
reached-keeps n s h = touch-keeps n _ (on_conn-keeps n (λ k. record k { is_reached = true }) s h)

opened-keeps : {R : Like} (n : ℕ) (s : State) → Holds R s → Holds R (opened n s)
unfolding opened
opened-keeps n s h = holds (facts_of h)

-- ---- replies that begin, and are over

begin_replies-keeps : {R : Like} (s : State) → Holds R s → Holds R (begin_replies s)
unfolding begin_replies
begin_replies-keeps s h = swept-keeps _ (forsake-keeps (is_outrun s) _ (holds (facts_of h)))

ending-keeps : {R : Like} (s : State) → Holds R s → Holds R (ending s)
unfolding ending
ending-keeps s h = begin_replies-keeps _ (come_to-keeps DecidingAgain s h)

end_reply-keeps : {R : Like} (c : Client) (s : State) → Holds R s → Holds R (end_reply c s)
unfolding end_reply
end_reply-keeps c s h = when c.closes (close_client-keeps c.number false s h) (swept-keeps _ (forsake-keeps (is_of c.number) _ (on_client-keeps c.number next_request s h)))

end_said-keeps : {R : Like} (c : Client) (s : State) → Holds R s → Holds R (end_said c s)
unfolding end_said
end_said-keeps c s h = when (is_said c && not c.is_closing) (end_reply-keeps c s h) h

end_replies-keeps : {R : Like} (s : State) → Holds R s → Holds R (end_replies s)
unfolding end_replies
end_replies-keeps s h = each_client-keeps close_finished close_finished-keeps _ _ (each_client-keeps end_said end_said-keeps _ s h)

-- ---- reads and writes

hear-keeps : {R : Like} (n : ℕ) (bytes : Bytes) (s : State) → Holds R s → Holds R (hear n bytes s)
unfolding hear
hear-keeps n bytes s h = end_replies-keeps _ (on_client-keeps n _ s h)

hang_up-keeps : {R : Like} (n : ℕ) (s : State) → Holds R s → Holds R (hang_up n s)
unfolding hang_up
hang_up-keeps n s h = when (is_writing s.owed n) (close_client-keeps n false s h) (end_replies-keeps _ (on_client-keeps n _ s h))

said-keeps : {R : Like} (c n : ℕ) (s : State) → Holds R s → Holds R (said c n s)
unfolding said
said-keeps c n s h = each_of (client s c) h (λ x. end_replies-keeps _ (on_client-keeps c (said_by n) _ (use_said-keeps n x s h)))

gone-keeps : {R : Like} (is_clean : Bool) (n : ℕ) (s : State) → Holds R s → Holds R (gone is_clean n s)
unfolding gone
gone-keeps is_clean n s h = each_of (conn s n) h (λ k. end_replies-keeps _ (ended-keeps is_clean k s h))

ask-keeps : {R : Like} (k n : ℕ) (s : State) → Holds R s → Holds R (ask k n s)
unfolding ask ask_next ask_body on_client_of on_exchange
ask-keeps {R} k n s h = each_of (asking s k) h (λ e. by e (is_outstanding e))
  where
    by : (e : Exchange) (t : Bool) → Holds R (elim t as (λ c. State) [ false ↦ on_exchange e.number (asked_text n s.clock) s | true ↦ ask_body e n s ])
    by e false = holds (facts_of h)
    by e true = holds (facts_of h)

-- ---- decisions

refuse-keeps : {R : Like} (c : Client) (status : ℕ) (s : State) → Holds R s → Holds R (refuse c status s)
unfolding refuse
refuse-keeps c status s h = swept-keeps _ (leave-keeps (is_of c.number) _ (on_client-keeps c.number (refused_with status) s h))

ask_for-keeps : {R : Like} (c : Client) (d : Decision) (head : Request) (key : Key) (kind : AskKind) (s : State) → Holds R s → Holds R (ask_for c d head key kind s)
unfolding ask_for
ask_for-keeps c d head key kind s h = swept-keeps _ (begin_exchange-keeps (new_exchange s c head key d kind) _ (leave-keeps (is_of c.number) _ (on_client-keeps c.number (asking_with d) s h)))

ask_origin-keeps : {R : Like} (c : Client) (d : Decision) (s : State) → Holds R s → Holds R (ask_origin c d s)
unfolding ask_origin ask_as
ask_origin-keeps c d s h = by_front c.front h (λ status. h) (λ r. by_result r.key (λ key. each_of (kind_of r.head (row_for s r.head (text_of key)) d) h (λ kind. ask_for-keeps c d r.head key kind s h)) (λ fault. h))

follow-keeps : {R : Like} (c : Client) (d : Decision) (s : State) → Holds R s → Holds R (follow c d s)
unfolding follow follow_row follow_with
follow-keeps c d s h = each_of (key_in c.front) h (λ key. each_of (row s (text_of key)) h (λ x. swept-keeps _ (leave-keeps _ _ (on_client-keeps c.number _ s h))))

relay-keeps : {R : Like} (c : Client) (s : State) → Holds R s → Holds R (relay c s)
unfolding relay
relay-keeps c s h = swept-keeps _ (on_client-keeps c.number _ s h)

decided_by-keeps : {R : Like} (c : Client) (d : Decision) (s : State) → Holds R s → Holds R (decided_by c d s)
unfolding decided_by
decided_by-keeps c (Refuse status) s h = refuse-keeps c status s h
decided_by-keeps c Pass s h = ask_origin-keeps c Pass s h
decided_by-keeps c Fetch s h = ask_origin-keeps c Fetch s h
decided_by-keeps c Validate s h = ask_origin-keeps c Validate s h
decided_by-keeps c Relay s h = relay-keeps c s h
decided_by-keeps c (Hit from to) s h = follow-keeps c (Hit from to) s h
decided_by-keeps c (Part from to) s h = follow-keeps c (Part from to) s h
decided_by-keeps c Head s h = follow-keeps c Head s h
decided_by-keeps c NotModified s h = follow-keeps c NotModified s h
decided_by-keeps c Unsatisfiable s h = follow-keeps c Unsatisfiable s h

take_decision-keeps : {R : Like} (n : ℕ) (d : Decision) (s : State) → Holds R s → Holds R (take_decision n d s)
unfolding take_decision decided
take_decision-keeps n d s h = each_of (client s n) h (λ c. regained-keeps _ (holds (facts_of (decided_by-keeps c d _ (enter_row-keeps c d s h)))))

-- ---- rows and chunks leave

evicted-keeps : {R : Like} (s : State) → Holds R s → Holds R (evicted s)
unfolding evicted
evicted-keeps s h = each_of (due_victim s) h (λ place. drop_chunk-keeps place.0 place.1 s h)

refused_row-keeps : {R : Like} (x : Instance) (s : State) → Holds R s → Holds R (refused_row x s)
unfolding refused_row
refused_row-keeps x s h = holds (facts_of (forget-keeps x.id s h))

leave_memory-keeps : {R : Like} (how : Leaving) (s : State) → Holds R s → Holds R (leave_memory how s)
unfolding leave_memory
leave_memory-keeps ForAnother s h = holds (facts_of (come_to-keeps Evicting s h))
leave_memory-keeps (ForMemory x) s h = refused_row-keeps x _ (come_to-keeps Evicting s h)
leave_memory-keeps (BeforeDecision x) s h = holds (facts_of (forget-keeps x.id _ (come_to_decide-keeps s h)))

forgotten_by-keeps : {R : Like} (key : Bytes) (s : State) → Holds R s → Holds R (forgotten_by key s)
unfolding forgotten_by
forgotten_by-keeps key s h = each_of (leaving_as s key) h (λ how. leave_memory-keeps how s h)

noted-keeps : {R : Like} (remark : Remark) (s : State) → Holds R s → Holds R (noted remark s)
unfolding noted
noted-keeps (Taken c i d) s h = take_decision-keeps c d _ (deciding-keeps s h)
noted-keeps (Cut c cause) s h = close_client-keeps c true _ (deciding-keeps s h)
noted-keeps (Kept key tag n extent) s h = note_kept-keeps key extent s h
noted-keeps (Gone key) s h = note_gone-keeps key _ (come_to-keeps Keeping s h)
noted-keeps (Forgotten key) s h = forgotten_by-keeps key s h
noted-keeps (Evicted key tag n i) s h = evicted-keeps _ (come_to-keeps Evicting s h)
noted-keeps (Loaded key tag n i) s h = load-keeps key i s h

-- ---- the disk, and the opening

begun_op-keeps : {R : Like} (op : DiskOp) (s : State) → Holds R s → Holds R (begun_op op s)
unfolding begun_op
begun_op-keeps op s h = when (is_opening s) (begin_in_opening-keeps op s h) (begin_in_turn-keeps op _ (come_to-keeps Keeping s h))

ended_op-keeps : {R : Like} (op : DiskOp) (ok : Bool) (s : State) → Holds R s → Holds R (ended_op op ok s)
unfolding ended_op
ended_op-keeps op true s h = end_op-keeps op true s h
ended_op-keeps op false s h = lose_in_opening-keeps s.agenda.name _ (end_op-keeps op false s h)

unread-keeps : {R : Like} (name : Bytes) (s : State) → Holds R s → Holds R (unread name s)
unfolding unread
unread-keeps name s h = paid-keeps _ (lose_in_opening-keeps name _ (close_name-keeps name s h))

record Made {A B : Type 0} (f : A → Option B) (y : B) : Type 0 where
  from : A
  is : f from ≡ Some y

made_in : {A B : Type 0} (f : A → Option B) (y : B) (xs : List A) → IsIn y (filter_map f xs) → Made f y
made_in f y [] i = absurd i
made_in {B = B} f y (x ∷ xs) i = by (f x) refl i (λ j. made_in f y xs j)
  where
    by : (o : Option B) → f x ≡ o → IsIn y (cons_option o (filter_map f xs)) → (IsIn y (filter_map f xs) → Made f y) → Made f y
    by None none j rest = rest j
    by (Some z) some (inl eq) rest = record { from = x; is = some ∙ ap (λ w. Some w) (sym eq) }
    by (Some z) some (inr j) rest = rest j

-- each entry of a folder has the fields that are kept of those in its file
found-keeps : {R : Like} (k : Closed R) (image : Files) (e : Entry) → IsIn e (entries_in image) → OfEntry R e
found-keeps {R} k image e i = by_row m.from.0 m.from.1 (row_at (take 8192 m.from.1)) refl m.is
  where
    m : Made (λ (file : Bytes × Bytes). entry_in file.0 file.1) e
    m = made_in (λ (file : Bytes × Bytes). entry_in file.0 file.1) e image i

    by_test : (name file : Bytes) (r : Row) (t : Bool) → row_at (take 8192 file) ≡ Some r → (elim t as (λ c. Option Entry) [
      | true ↦ Some (record { name = name; key = r.key; version = r.version; fields = kept_of r.fields r.times; times = r.times; extent = kept_in r.version.length file; is_stale = false })
      | false ↦ None
    ]) ≡ Some e → OfEntry R e
    by_test name file r true read is =
        let one : (record { name = name; key = r.key; version = r.version; fields = kept_of r.fields r.times; times = r.times; extent = kept_in r.version.length file; is_stale = false }) ≡ e = cc is in
        subst (λ (x : Entry). OfEntry R x) one (k.read (take 8192 file) r read)
    by_test name file r false read is = absurd (cc is)

    by_row : (name file : Bytes) (o : Option Row) → row_at (take 8192 file) ≡ o → option_and_then (entry_with name file) o ≡ Some e → OfEntry R e
    by_row name file None read is = absurd (cc is)
    by_row name file (Some r) read is = by_test name file r (bytes_eq (name_of r.key) name && has_extent r.version.length (kept_in r.version.length file) (length file)) read is

begun-keeps : {R : Like} (s : State) → Holds R s → Holds R (begun s)
unfolding begun with_settings
begun-keeps {R} s h = by (are_texts s.term) (names_file s.term)
  where
    set : (o : Option Settings) → Holds R (with_settings o s)
    set None = holds (facts_of h)
    set (Some c) = holds (facts_of h)

    by : (t u : Bool) → Holds R (elim t as (λ c. State) [
      | false ↦ with_settings None s
      | true ↦ elim u as (λ c. State) [ true ↦ record s { phase = IsWoken } | false ↦ with_settings (settings_in (reading_of s.term.words None)) s ]
    ])
    by false u = set None
    by true true = holds (facts_of h)
    by true false = set (settings_in (reading_of s.term.words None))

woken-keeps : {R : Like} (k : Closed R) (image : Files) (s : State) → Holds R (woken image s)
unfolding woken
woken-keeps k image s = begun-keeps _ (holds (record { own = record { differ = tt; given = λ x i. absurd i }; rows = λ x i. absurd i; kept = λ e i. found-keeps k image e i; next = λ e i. absurd i }))

-- ---- closings and places

shut-keeps : {R : Like} (n : ℕ) (s : State) → Holds R s → Holds R (shut n s)
unfolding shut
shut-keeps n s h = holds (facts_of (close_client-keeps n false s h))

dialled-keeps : {R : Like} (n : ℕ) (host : Bytes) (port : ℕ) (s : State) → Holds R s → Holds R (dialled n host port (placing s))
unfolding dialled
dialled-keeps n host port s h = by_pause (placing s).pause (placing-keeps s h) (λ k e. placing-keeps s h) (λ e. put_on-keeps e.number n _ (holds (facts_of (placing-keeps s h))))

refused_dial-keeps : {R : Like} (e : Exchange) (s : State) → Holds R s → Holds R (refused_dial e s)
unfolding refused_dial
refused_dial-keeps e s h = when (may_ask_again s e.number) h (fill-keeps _ (end_exchange-keeps e.number s h))

undialled-keeps : {R : Like} (s : State) → Holds R s → Holds R (undialled (placing s))
unfolding undialled
undialled-keeps s h = by_pause (placing s).pause (placing-keeps s h) (λ k e. placing-keeps s h) (λ e. refused_dial-keeps e _ (lose_attempt-keeps e _ (holds (facts_of (placing-keeps s h)))))

out-keeps : {R : Like} (n : ℕ) (s : State) → Holds R s → Holds R (out n s)
unfolding out
out-keeps n s h = holds (facts_of h)

dropped-keeps : {R : Like} (n : ℕ) (s : State) → Holds R s → Holds R (dropped n s)
unfolding dropped
dropped-keeps n s h = each_of (conn s n) h (λ k. when k.is_closing (out-keeps n s h) (out-keeps n _ (placing-keeps s h)))

-- ---- all

pub changed-keeps : {R : Like} (k0 : Closed R) (s : State) (happening : Happening) → Holds R s → Holds R (changed s happening)
unfolding changed
changed-keeps k0 s (Woke image) h = woken-keeps k0 image s
changed-keeps k0 s (Waits w) h = rest_with-keeps w _ (ending-keeps s h)
changed-keeps k0 s (Clock seconds) h = event-keeps _ (tick-keeps seconds s h)
changed-keeps k0 s (Opened n) h = event-keeps _ (opened-keeps n s h)
changed-keeps k0 s (CanRead n) h = event-keeps _ (owing-keeps (ReadOf n) n s h)
changed-keeps k0 s (CanWrite n) h = event-keeps _ (owing-keeps (WriteTo n) n s h)
changed-keeps k0 s (Heard c bytes) h = paid-keeps _ (hear-keeps c bytes s h)
changed-keeps k0 s (HungUp c) h = paid-keeps _ (hang_up-keeps c s h)
changed-keeps k0 s (Said c offered bytes) h = paid-keeps _ (said-keeps c (length bytes) s h)
changed-keeps k0 s (Shut c) h = shut-keeps c _ (come_to-keeps Connecting s h)
changed-keeps k0 s (Dialled n host port) h = dialled-keeps n host port _ (come_to-keeps Connecting s h)
changed-keeps k0 s (Undialled host port) h = undialled-keeps _ (come_to-keeps Connecting s h)
changed-keeps k0 s (Reached k) h = event-keeps _ (reached-keeps k s h)
changed-keeps k0 s (Ended k) h = paid-keeps _ (gone-keeps true k s h)
changed-keeps k0 s (Broke k) h = paid-keeps _ (gone-keeps false k _ (event-keeps s h))
changed-keeps k0 s (Asked k bytes) h = paid-keeps _ (ask-keeps k (length bytes) s h)
changed-keeps k0 s (Got k bytes) h = paid-keeps _ (end_replies-keeps _ (got-keeps k0 (length bytes) k bytes s h))
changed-keeps k0 s (Dropped k) h = dropped-keeps k _ (come_to-keeps Connecting s h)
changed-keeps k0 s (NoneYet n) h = paid-keeps s h
changed-keeps k0 s (Began op) h = begun_op-keeps op s h
changed-keeps k0 s (Did op ok) h = ended_op-keeps op ok s h
changed-keeps k0 s (Unread name) h = unread-keeps name s h
changed-keeps k0 s (Noted remark) h = noted-keeps remark s h
changed-keeps k0 s (Rooted folder) h = opened_to-keeps IsRooted true s h
changed-keeps k0 s (Listed ok) h = opened_to-keeps IsListed ok s h
changed-keeps k0 s (Listens port ok) h = opened_to-keeps IsListening ok s h
changed-keeps k0 s (Configured file text) h = configured-keeps text s h
changed-keeps k0 s (Printed text) h = h
changed-keeps k0 s Stopped h = event-keeps _ (holds (facts_of h))
