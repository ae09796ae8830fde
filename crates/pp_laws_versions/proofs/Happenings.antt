-- Each happening that may come keeps it.
use Rattle.pp_world.specs.Disk.{is_rising}
use Rattle.std.proofs.Common.{◌≡◌, ◌⊎◌, inl, inr, sym, is_some, refl, ℕ, Bool, true, false, not, ◌&&◌, [], length, bytes_eq, Option, Some, None, ap, ◌∙◌, map}
use Rattle.pp_ask.specs.declared.kind.AskKind.{AskKind}
use Rattle.pp_conf.specs.Conf.{Settings}
use Rattle.pp_conf.specs.Words.{reading_of}
use Rattle.pp_head.specs.Request.{Request}
use Rattle.pp_target.specs.Key.{Key, text_of}
use Rattle.pp_target.specs.Name.{name_of}
use Rattle.pp_world.specs.Files.{Files}
use Rattle.pp_world.specs.declared.happening.Happening.{Happening}
use Rattle.pp_world.specs.declared.happening.Happening.TheVariants.{Woke, Waits, Clock, Opened, CanRead, CanWrite, Heard, HungUp, Said, Shut, Dialled, Undialled, Reached, Ended, Broke, Asked, Got, Dropped, NoneYet, Began, Did, Unread, Noted, Rooted, Listed, Listens, Configured, Printed, Stopped}
use Rattle.pp_world.specs.declared.note.Decision.{Decision}
use Rattle.pp_world.specs.declared.note.Decision.TheVariants.{Refuse, Hit, Part, Head, NotModified, Unsatisfiable, Relay, Validate, Fetch, Pass}
use Rattle.pp_world.specs.declared.note.Remark.{Remark}
use Rattle.pp_world.specs.declared.note.Remark.TheVariants.{Taken, Cut, Kept, Gone, Forgotten, Evicted, Loaded}
use Rattle.pp_world.specs.declared.op.DiskOp.{DiskOp}
use Rattle.pp_law.specs.After.{begun_op, changed, dialled, dropped, ended_op, event, evicted, forgotten_by, gone, leave_memory, noted, opened, out, owing, paid, reached, refused_dial, refused_row, said, shut, take_decision, undialled, unread}
use Rattle.pp_law.specs.Asking.{ask, ask_body, ask_next, asked_text, asking, hang_up, hear, is_writing, is_reading}
use Rattle.pp_law.specs.Closing.{is_of}
use Rattle.pp_law.specs.Connections.{client, conn, is_outstanding, may_ask_again, on_client_of, on_exchange, placing}
use Rattle.pp_law.specs.Deciding.{ask_as, ask_for, ask_origin, asking_with, decided, decided_by, follow, follow_row, follow_with, new_exchange, refuse, refused_with, relay}
use Rattle.pp_law.specs.Decisions.{kind_of}
use Rattle.pp_law.specs.Entries.{entries_in}
use Rattle.pp_law.specs.Leaving.{Leaving, ForAnother, ForMemory, BeforeDecision, leaving_as}
use Rattle.pp_law.specs.Lists.{Bytes}
use Rattle.pp_law.specs.Opening.{are_texts, begun, is_at, is_opening, names_file, settings_in, with_settings, woken}
use Rattle.pp_law.specs.Phases.{come_to, due_victim, ending, may_in}
use Rattle.pp_law.specs.Repairs.{may_begin_in_opening}
use Rattle.pp_law.specs.Store.{is_idle_disk, may_begin_in_turn}
use Rattle.pp_law.specs.Replies.{begin_replies, close_finished, end_replies, end_reply, end_said, is_outrun, is_said, next_request, said_by}
use Rattle.pp_law.specs.Requests.{key_in}
use Rattle.pp_law.specs.State.{State, Client, Entry, Exchange, Instance, IsListed, IsListening, IsRooted, IsWoken, Evicting, Keeping, Connecting, DecidingAgain, ReadOf, WriteTo, Owed}
use Rattle.pp_law.specs.Table.{row, row_for, is_row_of}
use Rattle.pp_laws_versions.proofs.Asks.{begin_exchange-keeps, close_client-keeps, each_client-keeps, end_exchange-keeps, fill-keeps, forsake-keeps, leave-keeps, lose_attempt-keeps, on_client-keeps, on_conn-keeps, placing-keeps, put_on-keeps}
use Rattle.pp_laws_versions.proofs.Cases.{by_front, by_pause, by_result, each_of, when, when_so}
use Rattle.pp_laws_versions.proofs.Heads.{ended-keeps, got-keeps}
use Rattle.pp_laws_versions.proofs.Rows.{drop_chunk-keeps, forget-keeps, swept-keeps}
use Rattle.pp_laws_versions.proofs.Plans.{IsAlone}
use Rattle.pp_laws_versions.proofs.Store.{begin_in_opening-keeps, begin_in_turn-keeps, close_name-keeps, configured-keeps, end_op-keeps, load-keeps, lose_in_opening-keeps, note_gone-keeps, note_kept-keeps, opened_to-keeps}
use Rattle.pp_laws_versions.proofs.Turns.{close_finished-keeps, come_to-keeps, come_to_decide-keeps, deciding-keeps, enter_row-keeps, in_phase-keeps, regained-keeps, rest_with-keeps, tick-keeps, touch-keeps, use_said-keeps}
use Rattle.pp_law.specs.Permits.{IsPermitted, permits, permits_began, permits_noted}
use Rattle.pp_laws.proofs.Lists.{the_one}
use Rattle.pp_laws.proofs.Sound.{Since, Sound, instance_id, facts_of as sound_facts}
use Rattle.pp_laws.proofs.Steps.{come_to-sound}
use Rattle.pp_laws.proofs.Tests.{first_holds, second_holds}
use Rattle.pp_laws_crash.proofs.Frames.{kept_self}
use Rattle.pp_laws_crash.proofs.Happenings.{either_is, listed_opens, test_so, woke_so}
use Rattle.pp_laws_crash.proofs.KeptTurns.{come_to-kept}
use Rattle.pp_laws_crash.proofs.Standing.{at_IsListed}
use Rattle.pp_laws_crash.proofs.Steps.{Inv, inv_kept}
use Rattle.pp_laws_versions.proofs.Disk.{entries_end, loads_whole}
use Rattle.pp_obeys.proofs.Settled.{AtRest, Settled, reading_owes, rest_owing}
use Rattle.pp_recover.proofs.NameLemmas.{distinct}
use Rattle.pp_shelf_law.proofs.Finding.{named_in, one_named}
use Rattle.pp_shelf_law.proofs.Opened.{all_named, once_each}
use Rattle.pp_shelf_law.proofs.Shelves.{bytes_by}
use Rattle.pp_obeys.proofs.Silent.{permitted_wide}
use Rattle.pp_laws_versions.proofs.Grown.{all_left, less}
use Rattle.pp_laws_versions.proofs.View.{Holds, Like, facts_of, holds}

-- ---- events

event-keeps : {R : Like} (s : State) → Holds R s → Holds R (event s)
unfolding event
event-keeps s h = regained-keeps _ (in_phase-keeps _ s h)

paid-keeps : {R : Like} (s : State) → Holds R s → Holds R (paid s)
unfolding paid
paid-keeps s h = regained-keeps _ (holds (facts_of h))

owing-keeps : {R : Like} (owed : Owed) (n : ℕ) (s : State) → Holds R s → Holds R (owing owed n s)
unfolding owing
owing-keeps owed n s h = holds (facts_of (touch-keeps n s h))

reached-keeps : {R : Like} (n : ℕ) (s : State) → Holds R s → Holds R (reached n s)
unfolding reached
reached-keeps n s h = touch-keeps n _ (on_conn-keeps n (λ k. record k { is_reached = true }) s h)

opened-keeps : {R : Like} (n : ℕ) (s : State) → Holds R s → Holds R (opened n s)
unfolding opened
opened-keeps n s h = holds (facts_of h)

-- ---- replies that begin, and are over

begin_replies-keeps : {R : Like} (s : State) → Holds R s → Holds R (begin_replies s)
unfolding begin_replies
begin_replies-keeps s h = swept-keeps _ (forsake-keeps (is_outrun s) _ (holds (facts_of h)))

ending-keeps : {R : Like} (s : State) → Holds R s → Holds R (ending s)
unfolding ending
ending-keeps s h = begin_replies-keeps _ (come_to-keeps DecidingAgain s h)

end_reply-keeps : {R : Like} (c : Client) (s : State) → Holds R s → Holds R (end_reply c s)
unfolding end_reply
end_reply-keeps c s h = when c.closes (close_client-keeps c.number false s h) (swept-keeps _ (forsake-keeps (is_of c.number) _ (on_client-keeps c.number next_request s h)))

end_said-keeps : {R : Like} (c : Client) (s : State) → Holds R s → Holds R (end_said c s)
unfolding end_said
end_said-keeps c s h = when (is_said c && not c.is_closing) (end_reply-keeps c s h) h

end_replies-keeps : {R : Like} (s : State) → Holds R s → Holds R (end_replies s)
unfolding end_replies
end_replies-keeps s h = each_client-keeps close_finished close_finished-keeps _ _ (each_client-keeps end_said end_said-keeps _ s h)

-- ---- reads and writes

hear-keeps : {R : Like} (n : ℕ) (bytes : Bytes) (s : State) → Holds R s → Holds R (hear n bytes s)
unfolding hear
hear-keeps n bytes s h = end_replies-keeps _ (on_client-keeps n _ s h)

hang_up-keeps : {R : Like} (n : ℕ) (s : State) → Holds R s → Holds R (hang_up n s)
unfolding hang_up
hang_up-keeps n s h = when (is_writing s.owed n) (close_client-keeps n false s h) (end_replies-keeps _ (on_client-keeps n _ s h))

said-keeps : {R : Like} (c n : ℕ) (s : State) → Holds R s → Holds R (said c n s)
unfolding said
said-keeps c n s h = each_of (client s c) h (λ x. end_replies-keeps _ (on_client-keeps c (said_by n) _ (use_said-keeps n x s h)))

gone-keeps : {R : Like} (is_clean : Bool) (n : ℕ) (s : State) → Holds R s → Holds R (gone is_clean n s)
unfolding gone
gone-keeps is_clean n s h = each_of (conn s n) h (λ k. end_replies-keeps _ (ended-keeps is_clean k s h))

ask-keeps : {R : Like} (k n : ℕ) (s : State) → Holds R s → Holds R (ask k n s)
unfolding ask ask_next ask_body on_client_of on_exchange
ask-keeps {R} k n s h = each_of (asking s k) h (λ e. by e (is_outstanding e))
  where
    by : (e : Exchange) (t : Bool) → Holds R (elim t as (λ c. State) [ false ↦ on_exchange e.number (asked_text n s.clock) s | true ↦ ask_body e n s ])
    by e false = holds (facts_of h)
    by e true = holds (facts_of h)

-- ---- decisions

refuse-keeps : {R : Like} (c : Client) (status : ℕ) (s : State) → Holds R s → Holds R (refuse c status s)
unfolding refuse
refuse-keeps c status s h = swept-keeps _ (leave-keeps (is_of c.number) _ (on_client-keeps c.number (refused_with status) s h))

ask_for-keeps : {R : Like} (c : Client) (d : Decision) (head : Request) (key : Key) (kind : AskKind) (s : State) → Holds R s → Holds R (ask_for c d head key kind s)
unfolding ask_for
ask_for-keeps c d head key kind s h = swept-keeps _ (begin_exchange-keeps (new_exchange s c head key d kind) _ (leave-keeps (is_of c.number) _ (on_client-keeps c.number (asking_with d) s h)))

ask_origin-keeps : {R : Like} (c : Client) (d : Decision) (s : State) → Holds R s → Holds R (ask_origin c d s)
unfolding ask_origin ask_as
ask_origin-keeps c d s h = by_front c.front h (λ status. h) (λ r. by_result r.key (λ key. each_of (kind_of r.head (row_for s r.head (text_of key)) d) h (λ kind. ask_for-keeps c d r.head key kind s h)) (λ fault. h))

follow-keeps : {R : Like} (c : Client) (d : Decision) (s : State) → Holds R s → Holds R (follow c d s)
unfolding follow follow_row follow_with
follow-keeps c d s h = each_of (key_in c.front) h (λ key. each_of (row s (text_of key)) h (λ x. swept-keeps _ (leave-keeps _ _ (on_client-keeps c.number _ s h))))

relay-keeps : {R : Like} (c : Client) (s : State) → Holds R s → Holds R (relay c s)
unfolding relay
relay-keeps c s h = swept-keeps _ (on_client-keeps c.number _ s h)

decided_by-keeps : {R : Like} (c : Client) (d : Decision) (s : State) → Holds R s → Holds R (decided_by c d s)
unfolding decided_by
decided_by-keeps c (Refuse status) s h = refuse-keeps c status s h
decided_by-keeps c Pass s h = ask_origin-keeps c Pass s h
decided_by-keeps c Fetch s h = ask_origin-keeps c Fetch s h
decided_by-keeps c Validate s h = ask_origin-keeps c Validate s h
decided_by-keeps c Relay s h = relay-keeps c s h
decided_by-keeps c (Hit from to) s h = follow-keeps c (Hit from to) s h
decided_by-keeps c (Part from to) s h = follow-keeps c (Part from to) s h
decided_by-keeps c Head s h = follow-keeps c Head s h
decided_by-keeps c NotModified s h = follow-keeps c NotModified s h
decided_by-keeps c Unsatisfiable s h = follow-keeps c Unsatisfiable s h

take_decision-keeps : {R : Like} (n : ℕ) (d : Decision) (s : State) → Holds R s → Holds R (take_decision n d s)
unfolding take_decision decided
take_decision-keeps n d s h = each_of (client s n) h (λ c. regained-keeps _ (holds (facts_of (decided_by-keeps c d _ (enter_row-keeps c d s h)))))

-- ---- rows and chunks leave

evicted-keeps : {R : Like} (s : State) → Holds R s → Holds R (evicted s)
unfolding evicted
evicted-keeps s h = each_of (due_victim s) h (λ place. drop_chunk-keeps place.0 place.1 s h)

refused_row-keeps : {R : Like} (x : Instance) (s : State) → Holds R s → Holds R (refused_row x s)
unfolding refused_row
refused_row-keeps x s h = holds (facts_of (forget-keeps x.id s h))

leave_memory-keeps : {R : Like} (how : Leaving) (s : State) → Holds R s → Holds R (leave_memory how s)
unfolding leave_memory
leave_memory-keeps ForAnother s h = holds (facts_of (come_to-keeps Evicting s h))
leave_memory-keeps (ForMemory x) s h = refused_row-keeps x _ (come_to-keeps Evicting s h)
leave_memory-keeps (BeforeDecision x) s h = holds (facts_of (forget-keeps x.id _ (come_to_decide-keeps s h)))

forgotten_by-keeps : {R : Like} (key : Bytes) (s : State) → Holds R s → Holds R (forgotten_by key s)
unfolding forgotten_by
forgotten_by-keeps key s h = each_of (leaving_as s key) h (λ how. leave_memory-keeps how s h)

noted-keeps : (remark : Remark) (s : State) → permits_noted s remark ≡ true → Inv s → Holds false s → Holds false (noted remark s)
unfolding noted
noted-keeps (Taken c i d) s is inv h = take_decision-keeps c d _ (deciding-keeps s h)
noted-keeps (Cut c cause) s is inv h = close_client-keeps c true _ (deciding-keeps s h)
noted-keeps (Kept key tag n extent) s is inv h = note_kept-keeps key tag n extent s (second_holds (is_idle_disk s) _ is) h
noted-keeps (Gone key) s is inv h = note_gone-keeps key _ (come_to-keeps Keeping s h)
noted-keeps (Forgotten key) s is inv h = forgotten_by-keeps key s h
noted-keeps (Evicted key tag n i) s is inv h = evicted-keeps _ (come_to-keeps Evicting s h)
noted-keeps (Loaded key tag n i) s is inv h = load-keeps key i s (loads_whole s key tag n i inv (facts_of h) is) h

-- ---- the disk, and the opening

alone_in : {b : Since} (s : State) → Sound b s → IsAlone s
alone_in s hs x y i j stands on is =
    the_one instance_id s.instances y x (sound_facts hs).rows.differ j i
    ((sound_facts hs).rows.own_keys x.key y x j i (row_so y on is) (row_so x stands refl))
  where
    row_so : (z : Instance) → z.is_retired ≡ false → z.key ≡ x.key → is_row_of x.key z ≡ true
    row_so z stands is = ap (λ (b : Bool). not b && bytes_eq z.key x.key) stands ∙ bytes_by z.key x.key is

-- where operations begin in a turn none is under way
idle_in : (s : State) (op : DiskOp) → is_opening s ≡ false → permits_began s op ≡ true → not (is_some (come_to Keeping s).under_way) ≡ true
idle_in s op opens is = by (either_is (is_at IsListed s && may_begin_in_opening op s) _ is)
  where
    by : ((is_at IsListed s && may_begin_in_opening op s) ≡ true) ⊎ (may_in Keeping (may_begin_in_turn op) s ≡ true) → not (is_some (come_to Keeping s).under_way) ≡ true
    by (inl listed) = absurd (let both : true ≡ false = sym (listed_opens s (at_IsListed s.phase (first_holds (is_at IsListed s) _ listed))) ∙ opens in cc both)
    by (inr turns) = first_holds (not (is_some (come_to Keeping s).under_way)) _ (test_so (is_at Keeping (come_to Keeping s)) _ turns)

begun_op-keeps : {b : Since} (op : DiskOp) (s : State) → permits_began s op ≡ true → Inv s → Sound b s → Holds false s → Holds false (begun_op op s)
unfolding begun_op
begun_op-keeps op s is inv hs h = when_so (is_opening s) (λ opens. begin_in_opening-keeps op s (alone_in s hs) h)
    (λ opens. begin_in_turn-keeps op _ (alone_in _ (come_to-sound Keeping s hs)) (λ empty. entries_end (come_to Keeping s) (idle_in s op opens is) empty (inv_kept s _ (come_to-kept Keeping s (kept_self s inv.owed)) inv)) (come_to-keeps Keeping s h))

ended_op-keeps : {R : Like} (op : DiskOp) (ok : Bool) (s : State) → Holds R s → Holds R (ended_op op ok s)
unfolding ended_op
ended_op-keeps op true s h = end_op-keeps op true s h
ended_op-keeps op false s h = lose_in_opening-keeps s.agenda.name _ (end_op-keeps op false s h)

unread-keeps : {R : Like} (name : Bytes) (s : State) → Holds R s → Holds R (unread name s)
unfolding unread
unread-keeps name s h = paid-keeps _ (lose_in_opening-keeps name _ (close_name-keeps name s h))

begun-keeps : {R : Like} (s : State) → Holds R s → Holds R (begun s)
unfolding begun with_settings
begun-keeps {R} s h = by (are_texts s.term) (names_file s.term)
  where
    set : (o : Option Settings) → Holds R (with_settings o s)
    set None = holds (facts_of h)
    set (Some c) = holds (facts_of h)

    by : (t u : Bool) → Holds R (elim t as (λ c. State) [
      | false ↦ with_settings None s
      | true ↦ elim u as (λ c. State) [ true ↦ record s { phase = IsWoken } | false ↦ with_settings (settings_in (reading_of s.term.words None)) s ]
    ])
    by false u = set None
    by true true = holds (facts_of h)
    by true false = set (settings_in (reading_of s.term.words None))

-- no two entries of a folder are of one key
woken-keeps : (image : Files) (s : State) → is_rising (map (λ file. file.0) image) ≡ true → Holds false (woken image s)
unfolding woken
woken-keeps image s rising = begun-keeps _ (holds (record {
  each = λ e i fresh. record {
    rows = λ x j. absurd j;
    kept = λ d j on is. ap (λ (z : Entry). z.version) (one_named (name_of e.key) d e (entries_in image) (once_each image (distinct (map (λ (p : Bytes × Bytes). p.0) image) rising) (name_of e.key)) j (named_in d (entries_in image) (all_named image) j ∙ ap name_of is) i (named_in e (entries_in image) (all_named image) i));
    named = named_in e (entries_in image) (all_named image) i;
  };
  next = λ e i. absurd i;
  pending = λ e d i j is. absurd i;
  still = λ on. refl;
  once = λ e d i j fe fd is. ap (λ (z : Entry). z.extent) (one_named (name_of d.key) e d (entries_in image) (once_each image (distinct (map (λ (p : Bytes × Bytes). p.0) image) rising) (name_of d.key)) i (named_in e (entries_in image) (all_named image) i ∙ ap name_of is) j (named_in d (entries_in image) (all_named image) j));
  free = λ e d i. absurd i;
  last = tt;
  whole = λ e i fresh x j. absurd j;
  enters = λ e i. absurd i;
  notes = λ key tag n extent i. absurd i;
  differ = tt;
  given = λ x i. absurd i;
  chunks_given = λ c i. absurd i;
}))

-- ---- closings and places

shut-keeps : {R : Like} (n : ℕ) (s : State) → Holds R s → Holds R (shut n s)
unfolding shut
shut-keeps n s h = holds (facts_of (close_client-keeps n false s h))

dialled-keeps : {R : Like} (n : ℕ) (host : Bytes) (port : ℕ) (s : State) → Holds R s → Holds R (dialled n host port (placing s))
unfolding dialled
dialled-keeps n host port s h = by_pause (placing s).pause (placing-keeps s h) (λ k e. placing-keeps s h) (λ e. put_on-keeps e.number n _ (holds (facts_of (placing-keeps s h))))

refused_dial-keeps : {R : Like} (e : Exchange) (s : State) → Holds R s → Holds R (refused_dial e s)
unfolding refused_dial
refused_dial-keeps e s h = when (may_ask_again s e.number) h (fill-keeps _ (end_exchange-keeps e.number s h))

undialled-keeps : {R : Like} (s : State) → Holds R s → Holds R (undialled (placing s))
unfolding undialled
undialled-keeps s h = by_pause (placing s).pause (placing-keeps s h) (λ k e. placing-keeps s h) (λ e. refused_dial-keeps e _ (lose_attempt-keeps e _ (holds (facts_of (placing-keeps s h)))))

out-keeps : {R : Like} (n : ℕ) (s : State) → Holds R s → Holds R (out n s)
unfolding out
out-keeps n s h = holds (facts_of h)

dropped-keeps : {R : Like} (n : ℕ) (s : State) → Holds R s → Holds R (dropped n s)
unfolding dropped
dropped-keeps n s h = each_of (conn s n) h (λ k. when k.is_closing (out-keeps n s h) (out-keeps n _ (placing-keeps s h)))

-- ---- all

weaker : {R : Like} (s : State) → Holds R s → Holds false s
weaker s h = holds (less s.instances s.entries s.agenda.todo s.agenda.todo s.chunks s.next_instance (all_left s.agenda.todo (facts_of h).last) (λ on. absurd (let both : false ≡ true = on in cc both)) (facts_of h))

-- where nothing is on its way to the disk
pub stiller : (s : State) → s.agenda.todo ≡ [] → Holds false s → Holds true s
stiller s none h = holds (less s.instances s.entries s.agenda.todo s.agenda.todo s.chunks s.next_instance (all_left s.agenda.todo (facts_of h).last) (λ on. none) (facts_of h))

woke_rising : (s : State) (image : Files) → IsPermitted s (Woke image) → is_rising (map (λ file. file.0) image) ≡ true
woke_rising s image is = first_holds (is_rising (map (λ file. file.0) image)) _ (woke_so s image is)

got_rests : (s : State) (k : ℕ) (bytes : Bytes) → IsPermitted s (Got k bytes) → Settled s → AtRest s
unfolding permits
got_rests s k bytes is settled = rest_owing s (reading_owes s.owed k (first_holds (is_reading s.owed k) _ (permitted_wide s (Got k bytes) is))) settled

pub changed-keeps : {b : Since} (s : State) (happening : Happening) → IsPermitted s happening → Settled s → Inv s → Sound b s → Holds false s → Holds false (changed s happening)
unfolding changed permits
changed-keeps s (Woke image) is settled inv hs h = woken-keeps image s (woke_rising s image is)
changed-keeps s (Waits w) is settled inv hs h = rest_with-keeps w _ (ending-keeps s h)
changed-keeps s (Clock seconds) is settled inv hs h = event-keeps _ (tick-keeps seconds s h)
changed-keeps s (Opened n) is settled inv hs h = event-keeps _ (opened-keeps n s h)
changed-keeps s (CanRead n) is settled inv hs h = event-keeps _ (owing-keeps (ReadOf n) n s h)
changed-keeps s (CanWrite n) is settled inv hs h = event-keeps _ (owing-keeps (WriteTo n) n s h)
changed-keeps s (Heard c bytes) is settled inv hs h = paid-keeps _ (hear-keeps c bytes s h)
changed-keeps s (HungUp c) is settled inv hs h = paid-keeps _ (hang_up-keeps c s h)
changed-keeps s (Said c offered bytes) is settled inv hs h = paid-keeps _ (said-keeps c (length bytes) s h)
changed-keeps s (Shut c) is settled inv hs h = shut-keeps c _ (come_to-keeps Connecting s h)
changed-keeps s (Dialled n host port) is settled inv hs h = dialled-keeps n host port _ (come_to-keeps Connecting s h)
changed-keeps s (Undialled host port) is settled inv hs h = undialled-keeps _ (come_to-keeps Connecting s h)
changed-keeps s (Reached k) is settled inv hs h = event-keeps _ (reached-keeps k s h)
changed-keeps s (Ended k) is settled inv hs h = paid-keeps _ (gone-keeps true k s h)
changed-keeps s (Broke k) is settled inv hs h = paid-keeps _ (gone-keeps false k _ (event-keeps s h))
changed-keeps s (Asked k bytes) is settled inv hs h = paid-keeps _ (ask-keeps k (length bytes) s h)
changed-keeps s (Got k bytes) is settled inv hs h = paid-keeps _ (end_replies-keeps _ (weaker _ (got-keeps refl (length bytes) k bytes s (stiller s (got_rests s k bytes is settled).nothing h))))
changed-keeps s (Dropped k) is settled inv hs h = dropped-keeps k _ (come_to-keeps Connecting s h)
changed-keeps s (NoneYet n) is settled inv hs h = paid-keeps s h
changed-keeps s (Began op) is settled inv hs h = begun_op-keeps op s (permitted_wide s (Began op) is) inv hs h
changed-keeps s (Did op ok) is settled inv hs h = ended_op-keeps op ok s h
changed-keeps s (Unread name) is settled inv hs h = unread-keeps name s h
changed-keeps s (Noted remark) is settled inv hs h = noted-keeps remark s (permitted_wide s (Noted remark) is) inv h
changed-keeps s (Rooted folder) is settled inv hs h = opened_to-keeps IsRooted true s h
changed-keeps s (Listed ok) is settled inv hs h = opened_to-keeps IsListed ok s h
changed-keeps s (Listens port ok) is settled inv hs h = opened_to-keeps IsListening ok s h
changed-keeps s (Configured file text) is settled inv hs h = configured-keeps text s h
changed-keeps s (Printed text) is settled inv hs h = h
changed-keeps s Stopped is settled inv hs h = event-keeps _ (holds (facts_of h))
