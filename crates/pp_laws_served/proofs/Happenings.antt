-- Each permitted happening leaves room to who has no request, and nobody of whom nothing is left to answer.
use Rattle.std.proofs.Common.{◌≡◌, ◌⊎◌, refl, ℕ, ◌-◌, ◌<◌, ◌≤◌, Bool, true, false, not, List, [], drop, length, length-drop, map, Option, Some, None, inl, inr, sym, subst, ap, ◌∙◌, arith}
use Rattle.pp_conf.specs.Conf.{Settings}
use Rattle.pp_conf.specs.Words.{reading_of}
use Rattle.pp_world.specs.Files.{Files}
use Rattle.pp_world.specs.declared.happening.Happening.{Happening}
use Rattle.pp_world.specs.declared.happening.Happening.TheVariants.{Woke, Waits, Clock, Opened, CanRead, CanWrite, Heard, HungUp, Said, Shut, Dialled, Undialled, Reached, Ended, Broke, Asked, Got, Dropped, NoneYet, Began, Did, Unread, Noted, Rooted, Listed, Listens, Configured, Printed, Stopped}
use Rattle.pp_world.specs.declared.note.Decision.{Decision}
use Rattle.pp_world.specs.declared.note.Remark.{Remark}
use Rattle.pp_world.specs.declared.note.Remark.TheVariants.{Taken, Cut, Kept, Gone, Forgotten, Evicted, Loaded}
use Rattle.pp_world.specs.declared.op.DiskOp.{DiskOp}
use Rattle.pp_law.specs.After.{begun_op, changed, dialled, dropped, ended_op, event, evicted, forgotten_by, gone, leave_memory, new_client, noted, opened, out, owing, paid, reached, refused_dial, refused_row, said, shut, take_decision, undialled, unread, waits_for_row}
use Rattle.pp_law.specs.Asking.{ask, ask_body, ask_next, asked_body, asked_text, asking, hang_up, hear, is_writing}
use Rattle.pp_law.specs.Closing.{close_client}
use Rattle.pp_law.specs.Connections.{client, conn, is_client, is_outstanding, may_ask_again, on_client, on_exchange, placing, Placement}
use Rattle.pp_law.specs.Hearing.{heard_by}
use Rattle.pp_law.specs.Leaving.{Leaving, ForAnother, ForMemory, BeforeDecision, leaving_as}
use Rattle.pp_law.specs.Lists.{Bytes}
use Rattle.pp_law.specs.Opening.{are_texts, begun, is_opening, names_file, settings_in, with_settings, woken}
use Rattle.pp_law.specs.Phases.{come_to, due_victim, ending}
use Rattle.pp_law.specs.Replies.{end_replies, is_finished, said_by, use_said}
use Rattle.pp_law.specs.Requests.{NoHeadYet}
use Rattle.pp_law.specs.Responses.{ended}
use Rattle.pp_law.specs.State.{State, Client, Conn, Exchange, IsWoken, IsRooted, IsListed, IsListening, Instance, Handling, Evicting, Keeping, Connecting, DecidingAgain, Owed, ReadOf, WriteTo, RowRefused}
use Rattle.pp_law.specs.Table.{forget}
use Rattle.pp_laws.specs.Numbers.{AreRising}
use Rattle.pp_laws.specs.Runs.{IsIn}
use Rattle.pp_laws.proofs.Lists.{Changed, in_change, in_filter, in_push, other, rise_change, rise_filter, same}
use Rattle.pp_laws.proofs.Callers.{heard_by-same}
use Rattle.pp_laws.proofs.Sound.{client_number}
use Rattle.pp_laws_served.proofs.Cases.{by_pause, each_of, when}
use Rattle.pp_laws_served.proofs.EndsReplies.{end_replies-tended}
use Rattle.pp_laws_served.proofs.Heed.{Heeds, Still, as_it_was, clients_changed, facts_of as heeds_of, heeds, heeds_same}
use Rattle.pp_laws_served.proofs.HeedAsks.{close_client-heeds, end_exchange-heeds, fill-heeds, lose_attempt-heeds, on_client-heeds, on_client_of-heeds, on_conn-heeds, on_exchange-heeds, placing-heeds, put_on-heeds}
use Rattle.pp_laws_served.proofs.HeedClients.{begin_replies-heeds, decided-heeds, said_by-still}
use Rattle.pp_laws_served.proofs.HeedHeads.{ended-heeds, fewer, got-heeds}
use Rattle.pp_laws_served.proofs.HeedRows.{begin_in_opening-heeds, begin_in_turn-heeds, close_name-heeds, configured-heeds, drop_chunk-heeds, end_op-heeds, forget-heeds, load-heeds, lose_in_opening-heeds, note_gone-heeds, note_kept-heeds, opened_to-heeds}
use Rattle.pp_laws_served.proofs.HeedTurns.{come_to-heeds, come_to_decide-heeds, deciding-heeds, in_phase-heeds, regained-heeds, rest_with-heeds, tick-heeds, touch-heeds, use_said-heeds}
use Rattle.pp_laws_served.proofs.Tended.{FactsOf, Tended, facts_of, heard_short, tended, tended_on, unlooked}

-- ---- where nobody is heard

pub event-heeds : {o : State} (s : State) → Heeds o s → Heeds o (event s)
unfolding event
event-heeds s h = regained-heeds _ (in_phase-heeds Handling s h)

owing-heeds : {o : State} (owed : Owed) (n : ℕ) (s : State) → Heeds o s → Heeds o (owing owed n s)
unfolding owing
owing-heeds owed n s h = heeds (heeds_of (touch-heeds n s h))

reached-heeds : {o : State} (n : ℕ) (s : State) → Heeds o s → Heeds o (reached n s)
unfolding reached
reached-heeds n s h = touch-heeds n _ (on_conn-heeds n (λ k. record k { is_reached = true }) s h)

paid-heeds : {o : State} (s : State) → Heeds o s → Heeds o (paid s)
unfolding paid
paid-heeds s h = regained-heeds _ (heeds (heeds_of h))

evicted-heeds : {o : State} (s : State) → Heeds o s → Heeds o (evicted s)
unfolding evicted
evicted-heeds s h = each_of (due_victim s) h (λ place. drop_chunk-heeds place.0 place.1 s h)

refused_row-heeds : {o : State} (x : Instance) (s : State) → Heeds o s → Heeds o (refused_row x s)
unfolding refused_row
refused_row-heeds {o} x s h = heeds (clients_changed o (forget x.id s) (waits_for_row x.id) (λ c. record c { course = RowRefused }) (λ c is. as_it_was _ c refl refl refl (λ on. on) refl refl) (heeds_of (forget-heeds x.id s h)))

leave_memory-heeds : {o : State} (how : Leaving) (s : State) → Heeds o s → Heeds o (leave_memory how s)
unfolding leave_memory
leave_memory-heeds ForAnother s h = heeds (heeds_of (come_to-heeds Evicting s h))
leave_memory-heeds (ForMemory x) s h = refused_row-heeds x _ (come_to-heeds Evicting s h)
leave_memory-heeds (BeforeDecision x) s h = heeds (heeds_of (forget-heeds x.id _ (come_to_decide-heeds s h)))

forgotten_by-heeds : {o : State} (key : Bytes) (s : State) → Heeds o s → Heeds o (forgotten_by key s)
unfolding forgotten_by
forgotten_by-heeds key s h = each_of (leaving_as s key) h (λ how. leave_memory-heeds how s h)

take_decision-heeds : {o : State} (n : ℕ) (d : Decision) (s : State) → Heeds o s → Heeds o (take_decision n d s)
unfolding take_decision
take_decision-heeds n d s h = each_of (client s n) h (λ c. regained-heeds _ (heeds (heeds_of (decided-heeds c d s h))))

begun_op-heeds : {o : State} (op : DiskOp) (s : State) → Heeds o s → Heeds o (begun_op op s)
unfolding begun_op
begun_op-heeds op s h = when (is_opening s) (begin_in_opening-heeds op s h) (begin_in_turn-heeds op _ (come_to-heeds Keeping s h))

ended_op-heeds : {o : State} (op : DiskOp) (ok : Bool) (s : State) → Heeds o s → Heeds o (ended_op op ok s)
unfolding ended_op
ended_op-heeds op true s h = end_op-heeds op true s h
ended_op-heeds op false s h = lose_in_opening-heeds s.agenda.name _ (end_op-heeds op false s h)

unread-heeds : {o : State} (name : Bytes) (s : State) → Heeds o s → Heeds o (unread name s)
unfolding unread
unread-heeds name s h = paid-heeds _ (lose_in_opening-heeds name _ (close_name-heeds name s h))

refused_dial-heeds : {o : State} (e : Exchange) (s : State) → Heeds o s → Heeds o (refused_dial e s)
unfolding refused_dial
refused_dial-heeds e s h = when (may_ask_again s e.number) h (fill-heeds _ (end_exchange-heeds e.number s h))

undialled-heeds : {o : State} (p : Placement) → Heeds o p.state → Heeds o (undialled p)
unfolding undialled
undialled-heeds p h = by_pause p.pause h (λ k e. h) (λ e. refused_dial-heeds e _ (lose_attempt-heeds e _ (heeds (heeds_of h))))

dialled-heeds : {o : State} (n : ℕ) (host : Bytes) (port : ℕ) (p : Placement) → Heeds o p.state → Heeds o (dialled n host port p)
unfolding dialled
dialled-heeds n host port p h = by_pause p.pause h (λ k e. h) (λ e. put_on-heeds e.number n _ (heeds (heeds_of h)))

out-heeds : {o : State} (n : ℕ) (s : State) → Heeds o s → Heeds o (out n s)
unfolding out
out-heeds n s h = heeds (heeds_of h)

dropped-heeds : {o : State} (n : ℕ) (s : State) → Heeds o s → Heeds o (dropped n s)
unfolding dropped
dropped-heeds n s h = each_of (conn s n) h (λ k. when k.is_closing (out-heeds n s h) (out-heeds n _ (placing-heeds s h)))

asked_body-still : (n : ℕ) (c : Client) → Still (asked_body n c) c
asked_body-still n c = record { number = refl; front = refl; hung = refl; closing = λ is. is; heard = fewer n c.heard; left = λ le. less n c.body_left c.heard le }
  where
    less : (m left : ℕ) (bytes : Bytes) → left ≤ length bytes → left - m ≤ length (drop m bytes)
    less m left bytes le = let e : length (drop m bytes) ≡ length bytes - m = length-drop m bytes in omega arith

ask-heeds : {o : State} (k n : ℕ) (s : State) → Heeds o s → Heeds o (ask k n s)
unfolding ask ask_next ask_body
ask-heeds {o} k n s h = each_of (asking s k) h (λ e. next e (is_outstanding e))
  where
    next : (e : Exchange) (t : Bool) → Heeds o (elim t as (λ x. State) [ false ↦ on_exchange e.number (asked_text n s.clock) s | true ↦ ask_body e n s ])
    next e false = on_exchange-heeds e.number (asked_text n s.clock) s h
    next e true = on_client_of-heeds e (asked_body n) _ (asked_body-still n) (on_exchange-heeds e.number (λ x. record x { body_left = x.body_left - n }) s h)

pub ending-heeds : {o : State} (s : State) → Heeds o s → Heeds o (ending s)
unfolding ending
ending-heeds s h = begin_replies-heeds _ (come_to-heeds DecidingAgain s h)

noted-heeds : (remark : Remark) (s : State) → Heeds s (noted remark s)
unfolding noted
noted-heeds (Taken m i d) s = take_decision-heeds m d _ (deciding-heeds s (heeds_same s))
noted-heeds (Cut m cause) s = close_client-heeds m true _ (deciding-heeds s (heeds_same s))
noted-heeds (Kept key tag k extent) s = note_kept-heeds key extent s (heeds_same s)
noted-heeds (Gone key) s = note_gone-heeds key _ (come_to-heeds Keeping s (heeds_same s))
noted-heeds (Forgotten key) s = forgotten_by-heeds key s (heeds_same s)
noted-heeds (Evicted key tag k i) s = evicted-heeds _ (come_to-heeds Evicting s (heeds_same s))
noted-heeds (Loaded key tag k i) s = load-heeds key i s (heeds_same s)

-- ---- where somebody is

heard-tended : (n : ℕ) (bytes : Bytes) (s : State) → Tended false s → Tended false (on_client n (heard_by bytes) s)
unfolding on_client
heard-tended n bytes s h = tended (record {
  rise = rise_change client_number (is_client n) (heard_by bytes) (λ c. (heard_by-same bytes c).number) s.clients f.rise;
  short = λ c i none. by c (in_change (is_client n) (heard_by bytes) c s.clients i) none;
  over = λ is. absurd (cc is);
})
  where
    f : FactsOf false s
    f = facts_of h

    by : (c : Client) → Changed (is_client n) (heard_by bytes) s.clients c → c.front ≡ NoHeadYet → length c.heard < 16384
    by c (same i isnt) none = f.short c i none
    by c (other d i hit eq) none = subst (λ (x : Client). length x.heard < 16384) (sym eq) (heard_short bytes d (sym (ap (λ (x : Client). x.front) eq) ∙ none))

hear-tended : (n : ℕ) (bytes : Bytes) (s : State) → Tended true s → Tended true (hear n bytes s)
unfolding hear
hear-tended n bytes s h = end_replies-tended _ (heard-tended n bytes s (unlooked h))

hung-tended : (n : ℕ) (s : State) → Tended false s → Tended false (on_client n (λ c. record c { has_hung_up = true }) s)
unfolding on_client
hung-tended n s h = tended (record {
  rise = rise_change client_number (is_client n) (λ c. record c { has_hung_up = true }) (λ c. refl) s.clients f.rise;
  short = λ c i none. by c (in_change (is_client n) (λ d. record d { has_hung_up = true }) c s.clients i) none;
  over = λ is. absurd (cc is);
})
  where
    f : FactsOf false s
    f = facts_of h

    by : (c : Client) → Changed (is_client n) (λ d. record d { has_hung_up = true }) s.clients c → c.front ≡ NoHeadYet → length c.heard < 16384
    by c (same i isnt) none = f.short c i none
    by c (other d i hit eq) none = subst (λ (x : Client). length x.heard < 16384) (sym eq) (f.short d i (sym (ap (λ (x : Client). x.front) eq) ∙ none))

hang_up-tended : (n : ℕ) (s : State) → Tended true s → Tended true (hang_up n s)
unfolding hang_up
hang_up-tended n s h = by (is_writing s.owed n)
  where
    by : (t : Bool) → Tended true (elim t as (λ x. State) [ true ↦ close_client n false s | false ↦ end_replies (on_client n (λ c. record c { has_hung_up = true }) s) ])
    by true = tended_on s _ (close_client-heeds n false s (heeds_same s)) h
    by false = end_replies-tended _ (hung-tended n s (unlooked h))

said-tended : (n m : ℕ) (s : State) → Tended true s → Tended true (said n m s)
unfolding said
said-tended n m s h = by (client s n)
  where
    by : (o : Option Client) → Tended true (elim o as (λ x. State) [ None ↦ s | Some x ↦ end_replies (on_client n (said_by m) (use_said m x s)) ])
    by None = h
    by (Some x) = end_replies-tended _ (tended_on s _ (on_client-heeds n (said_by m) _ (said_by-still m) (use_said-heeds m x s (heeds_same s))) (unlooked h))

gone-tended : (is_clean : Bool) (n : ℕ) (s : State) → Tended true s → Tended true (gone is_clean n s)
unfolding gone
gone-tended is_clean n s h = by (conn s n)
  where
    by : (o : Option Conn) → Tended true (elim o as (λ x. State) [ None ↦ s | Some k ↦ end_replies (ended is_clean k s) ])
    by None = h
    by (Some k) = end_replies-tended _ (tended_on s _ (ended-heeds is_clean k s (heeds_same s)) (unlooked h))

-- one comes that sent nothing yet
opened-tended : (n : ℕ) (s : State) → AreRising (map client_number (opened n s).clients) → Tended true s → Tended true (opened n s)
unfolding opened
opened-tended n s rise h = tended (record { rise = rise; short = λ c i none. short c (in_push c s.clients (new_client n s.clock) i) none; over = λ is c i. over c (in_push c s.clients (new_client n s.clock) i) })
  where
    f : FactsOf true s
    f = facts_of h

    few : 0 < 16384
    few = omega arith

    short : (c : Client) → IsIn c s.clients ⊎ (c ≡ new_client n s.clock) → c.front ≡ NoHeadYet → length c.heard < 16384
    short c (inl i) none = f.short c i none
    short c (inr eq) none = subst (λ (x : Client). length x.heard < 16384) (sym eq) few

    over : (c : Client) → IsIn c s.clients ⊎ (c ≡ new_client n s.clock) → is_finished c ≡ false
    over c (inl i) = f.over refl c i
    over c (inr eq) = ap is_finished eq

shut-tended : (n : ℕ) (s : State) → Tended true s → Tended true (shut n s)
unfolding shut
shut-tended n s h = tended (record {
  rise = rise_filter client_number (λ c. not (is_client n c)) (close_client n false s).clients f.rise;
  short = λ c i none. f.short c (in_filter (λ d. not (is_client n d)) c (close_client n false s).clients i).0 none;
  over = λ is c i. f.over is c (in_filter (λ d. not (is_client n d)) c (close_client n false s).clients i).0;
})
  where
    f : FactsOf true (close_client n false s)
    f = facts_of (tended_on s _ (close_client-heeds n false s (heeds_same s)) h)

-- nobody is there
nobody : (s : State) → s.clients ≡ [] → Tended true s
nobody s none = tended (record {
  rise = subst (λ (cs : List Client). AreRising (map client_number cs)) (sym none) tt;
  short = λ c i. absurd (subst (λ (cs : List Client). IsIn c cs) none i);
  over = λ is c i. absurd (subst (λ (cs : List Client). IsIn c cs) none i);
})

opening_none : (s : State) → (begun s).clients ≡ s.clients
unfolding begun with_settings
opening_none s = by (are_texts s.term) (names_file s.term)
  where
    by_settings : (o : Option Settings) → (with_settings o s).clients ≡ s.clients
    by_settings None = refl
    by_settings (Some c) = refl

    by : (a b : Bool)
        → (elim a as (λ x. State) [ false ↦ with_settings None s | true ↦ elim b as (λ x. State) [ true ↦ record s { phase = IsWoken } | false ↦ with_settings (settings_in (reading_of s.term.words None)) s ] ]).clients ≡ s.clients
    by false b = by_settings None
    by true true = refl
    by true false = by_settings (settings_in (reading_of s.term.words None))

woken-tended : (image : Files) (s : State) → Tended true (woken image s)
unfolding woken
woken-tended image s = nobody _ (opening_none _)

-- ---- all

on_from : (s t : State) → Heeds s t → Tended true s → Tended true t
on_from s t q h = tended_on s t q h

paid-tended : (s : State) → Tended true s → Tended true (paid s)
paid-tended s h = tended_on s _ (paid-heeds s (heeds_same s)) h

pub changed-tended : (s : State) (happening : Happening) → ((n : ℕ) → happening ≡ Opened n → AreRising (map client_number (opened n s).clients)) → Tended true s → Tended true (changed s happening)
unfolding changed
changed-tended s (Woke image) rise h = woken-tended image s
changed-tended s (Waits w) rise h = on_from s _ (rest_with-heeds w _ (ending-heeds s (heeds_same s))) h
changed-tended s (Clock seconds) rise h = on_from s _ (event-heeds _ (tick-heeds seconds s (heeds_same s))) h
changed-tended s (Opened n) rise h = on_from (opened n s) _ (event-heeds _ (heeds_same (opened n s))) (opened-tended n s (rise n refl) h)
changed-tended s (CanRead n) rise h = on_from s _ (event-heeds _ (owing-heeds (ReadOf n) n s (heeds_same s))) h
changed-tended s (CanWrite n) rise h = on_from s _ (event-heeds _ (owing-heeds (WriteTo n) n s (heeds_same s))) h
changed-tended s (Heard c bytes) rise h = paid-tended _ (hear-tended c bytes s h)
changed-tended s (HungUp c) rise h = paid-tended _ (hang_up-tended c s h)
changed-tended s (Said c offered bytes) rise h = paid-tended _ (said-tended c (length bytes) s h)
changed-tended s (Shut c) rise h = shut-tended c _ (on_from s _ (come_to-heeds Connecting s (heeds_same s)) h)
changed-tended s (Dialled n host port) rise h = on_from s _ (dialled-heeds n host port (placing (come_to Connecting s)) (placing-heeds _ (come_to-heeds Connecting s (heeds_same s)))) h
changed-tended s (Undialled host port) rise h = on_from s _ (undialled-heeds (placing (come_to Connecting s)) (placing-heeds _ (come_to-heeds Connecting s (heeds_same s)))) h
changed-tended s (Reached k) rise h = on_from s _ (event-heeds _ (reached-heeds k s (heeds_same s))) h
changed-tended s (Ended k) rise h = paid-tended _ (gone-tended true k s h)
changed-tended s (Broke k) rise h = paid-tended _ (gone-tended false k _ (on_from s _ (event-heeds s (heeds_same s)) h))
changed-tended s (Asked k bytes) rise h = on_from s _ (paid-heeds _ (ask-heeds k (length bytes) s (heeds_same s))) h
changed-tended s (Got k bytes) rise h = paid-tended _ (end_replies-tended _ (tended_on s _ (got-heeds (length bytes) k bytes s (heeds_same s)) (unlooked h)))
changed-tended s (Dropped k) rise h = on_from s _ (dropped-heeds k _ (come_to-heeds Connecting s (heeds_same s))) h
changed-tended s (NoneYet n) rise h = paid-tended s h
changed-tended s (Began op) rise h = on_from s _ (begun_op-heeds op s (heeds_same s)) h
changed-tended s (Did op ok) rise h = on_from s _ (ended_op-heeds op ok s (heeds_same s)) h
changed-tended s (Unread name) rise h = on_from s _ (unread-heeds name s (heeds_same s)) h
changed-tended s (Noted remark) rise h = on_from s _ (noted-heeds remark s) h
changed-tended s (Rooted folder) rise h = on_from s _ (opened_to-heeds IsRooted true s (heeds_same s)) h
changed-tended s (Listed ok) rise h = on_from s _ (opened_to-heeds IsListed ok s (heeds_same s)) h
changed-tended s (Listens port ok) rise h = on_from s _ (opened_to-heeds IsListening ok s (heeds_same s)) h
changed-tended s (Configured file text) rise h = on_from s _ (configured-heeds text s (heeds_same s)) h
changed-tended s (Printed text) rise h = h
changed-tended s Stopped rise h = on_from s _ (event-heeds (record s { is_stopped = true }) (heeds (heeds_of (heeds_same s)))) h
