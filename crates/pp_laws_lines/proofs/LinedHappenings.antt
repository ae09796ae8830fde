-- Each happening keeps the lines, but an ask, and what is read of an origin.
use Rattle.std.proofs.Common.{◌≡◌, ◌⊎◌, refl, ℕ, ◌+◌, ◌<◌, ◌≤◌, Bool, true, false, not, ◌&&◌, List, [], ◌∷◌, ◌++◌, map, length, Option, Some, None, inl, inr, sym, subst, ap, ◌∙◌, le_trans, le_of_lt, le_refl, arith}
use Rattle.pp_conf.specs.Conf.{Settings}
use Rattle.pp_conf.specs.Words.{reading_of}
use Rattle.pp_world.specs.Files.{Files}
use Rattle.pp_world.specs.Log.{Log}
use Rattle.pp_world.specs.Streams.{asked as asked_on}
use Rattle.pp_world.specs.declared.happening.Happening.TheVariants.{Woke, Waits, Clock, Opened, CanRead, CanWrite, Heard, HungUp, Said, Shut, Dialled, Undialled, Reached, Ended, Broke, Asked, Got, Dropped, NoneYet, Began, Did, Unread, Noted, Rooted, Listed, Listens, Configured, Printed, Stopped}
use Rattle.pp_world.specs.declared.happening.Happening.{Happening}
use Rattle.pp_world.specs.declared.note.Remark.TheVariants.{Taken, Cut, Kept, Gone, Forgotten, Evicted, Loaded}
use Rattle.pp_world.specs.declared.note.Decision.{Decision}
use Rattle.pp_world.specs.declared.note.Remark.{Remark}
use Rattle.pp_world.specs.declared.op.DiskOp.{DiskOp}
use Rattle.pp_law.specs.After.{new_conn, event, opened, owing, reached, paid, said, gone, take_decision, evicted, brings_to, dropping_body, refused_row, leave_memory, forgotten_by, noted, begun_op, ended_op, unread, shut, dialled, refused_dial, undialled, out, dropped, changed, after}
use Rattle.pp_law.specs.Asking.{is_writing, hear, hang_up}
use Rattle.pp_law.specs.Connections.{client, conn, is_conn, may_ask_again, on_conn, on_exchange, placing, put_on, lose_attempt, Placement, Pause, AllPlaced, WaitsDial, WaitsDrop}
use Rattle.pp_law.specs.Hearing.{heard_by}
use Rattle.pp_law.specs.Leaving.{Leaving, ForAnother, ForMemory, BeforeDecision, leaving_as}
use Rattle.pp_law.specs.Lists.{Bytes}
use Rattle.pp_law.specs.Opening.{woken, begun as opening_begun, with_settings, settings_in, are_texts, names_file, is_at, is_opening}
use Rattle.pp_law.specs.Permits.{IsPermitted, is_permitted, permits, permits_dial, is_dial_of, is_new_number, may_dial, may_open}
use Rattle.pp_law.specs.Phases.{come_to, due_victim, ending, has_closings, is_awaiting}
use Rattle.pp_law.specs.Replies.{said_by}
use Rattle.pp_law.specs.Served.{accepts}
use Rattle.pp_law.specs.State.{State, Conn, Exchange, Instance, IsRooted, IsListed, IsListening, IsWoken, Handling, Evicting, Keeping, Connecting, DecidingAgain, Owed, ReadOf, WriteTo}
use Rattle.pp_law.specs.Table.{forget}
use Rattle.pp_laws.specs.Numbers.{AreRising}
use Rattle.pp_laws.specs.Runs.{IsIn}
use Rattle.pp_laws.proofs.Lists.{in_find, one_of}
use Rattle.pp_laws.proofs.Shrinks.{lose_attempt-shrinks, no_line_shrunk}
use Rattle.pp_laws.proofs.Sound.{conn_number, exchange_number}
use Rattle.pp_laws.proofs.Tests.{below, first_holds, second_holds}
use Rattle.pp_laws.proofs.Tops.{come_to-top, placing-top}
use Rattle.pp_laws_passed.proofs.Same.{Same, alike, itself}
use Rattle.pp_laws_passed.proofs.SameRows.{begin_in_opening-same, begin_in_turn-same, close_name-same, configured-same, drop_chunk-same, end_op-same, forget-same, load-same, lose_in_opening-same, note_gone-same, note_kept-same, opened_to-same}
use Rattle.pp_laws_lines.specs.Hosts.{WasDialled}
use Rattle.pp_laws_lines.proofs.Cases.{each_of, each_so, when}
use Rattle.pp_laws_lines.proofs.Lined.{FactsOf, IsPlain, Lined, conn_added, conns_fewer, exchanges_changed, facts_of, lined, still}
use Rattle.pp_laws_lines.proofs.LinedAsks.{Settles, close_client-lined, end_exchange-lined, fill-lined, lose_attempt-lined, on_client-lined, on_conn-lined, placing-lined, put_on-lined}
use Rattle.pp_laws_lines.proofs.LinedHeads.{ended-lined}
use Rattle.pp_laws_lines.proofs.LinedReplies.{begin_replies-lined, decided-lined, end_replies-lined}
use Rattle.pp_laws_lines.proofs.LinedTurns.{come_to-lined, come_to_decide-lined, deciding-lined, in_phase-lined, regained-lined, rest_with-lined, tick-lined, touch-lined, use_said-lined}
use Rattle.pp_laws_lines.proofs.Hosts.{GoesTo, dial_for, goes_as, goes_with}
use Rattle.pp_laws_lines.proofs.Stands.{Since}

event-lined : {b : Since} (s : State) → Lined b s → Lined b (event s)
unfolding event
event-lined s h = regained-lined _ (in_phase-lined Handling s h)

owing-lined : {b : Since} (owed : Owed) (n : ℕ) (s : State) → Lined b s → Lined b (owing owed n s)
unfolding owing
owing-lined owed n s h = lined (facts_of (touch-lined n s h))

reached-lined : {b : Since} (n : ℕ) (s : State) → Lined b s → Lined b (reached n s)
unfolding reached
reached-lined n s h = touch-lined n _ (on_conn-lined n (λ k. record k { is_reached = true }) s (λ k. record { number = refl; host = refl; port = refl; line = refl; answer = inl refl; closing = refl }) h)

pub paid-lined : {b : Since} (s : State) → Lined b s → Lined b (paid s)
unfolding paid
paid-lined s h = regained-lined _ (lined (facts_of h))

evicted-lined : {b : Since} (s : State) → Lined b s → Lined b (evicted s)
unfolding evicted
evicted-lined s h = each_of (due_victim s) h (λ place. still (drop_chunk-same place.0 place.1 s (itself s)) h)

refused_row-lined : {b : Since} (x : Instance) (s : State) → Lined b s → Lined b (refused_row x s)
unfolding refused_row
refused_row-lined {b} x s h = lined (exchanges_changed b (forget x.id s) (brings_to x.id) dropping_body (λ e. record { number = refl; place = refl; text = refl; asked = refl; left = refl; key = refl; head = refl; aim = refl }) (facts_of (still (forget-same x.id s (itself s)) h)))

leave_memory-lined : {b : Since} (how : Leaving) (s : State) → IsPlain b → Lined b s → Lined b (leave_memory how s)
unfolding leave_memory
leave_memory-lined ForAnother s p h = lined (facts_of (come_to-lined Evicting s p h))
leave_memory-lined (ForMemory x) s p h = refused_row-lined x _ (come_to-lined Evicting s p h)
leave_memory-lined (BeforeDecision x) s p h = lined (facts_of (still (forget-same x.id _ (itself _)) (come_to_decide-lined s p h)))

forgotten_by-lined : {b : Since} (key : Bytes) (s : State) → IsPlain b → Lined b s → Lined b (forgotten_by key s)
unfolding forgotten_by
forgotten_by-lined key s p h = each_of (leaving_as s key) h (λ how. leave_memory-lined how s p h)

begun_op-lined : {b : Since} (op : DiskOp) (s : State) → IsPlain b → Lined b s → Lined b (begun_op op s)
unfolding begun_op
begun_op-lined op s p h = when (is_opening s) (still (begin_in_opening-same op s (itself s)) h) (still (begin_in_turn-same op _ (itself _)) (come_to-lined Keeping s p h))

ended_op-lined : {b : Since} (op : DiskOp) (ok : Bool) (s : State) → Lined b s → Lined b (ended_op op ok s)
unfolding ended_op
ended_op-lined op true s h = still (end_op-same op true s (itself s)) h
ended_op-lined op false s h = still (lose_in_opening-same s.agenda.name _ (end_op-same op false s (itself s))) h

unread-lined : {b : Since} (name : Bytes) (s : State) → Lined b s → Lined b (unread name s)
unfolding unread
unread-lined name s h = paid-lined _ (still (lose_in_opening-same name _ (close_name-same name s (itself s))) h)

undialled-lined : {b : Since} (q : Placement) → b.kept ≡ None → Settles b q → Lined b (undialled q)
unfolding undialled refused_dial
undialled-lined {b} q none w = by q.pause refl
  where
    lost : (e : Exchange) → Lined b (lose_attempt e (record q.state { failures = q.state.failures + 1 }))
    lost e = lose_attempt-lined e _ (lined (facts_of w.state))

    by : (pause : Pause) → q.pause ≡ pause → Lined b (elim pause as (λ c. State) [ AllPlaced ↦ q.state | WaitsDrop k e ↦ q.state | WaitsDial e ↦ refused_dial e (lose_attempt e (record q.state { failures = q.state.failures + 1 })) ])
    by AllPlaced is = w.state
    by (WaitsDrop k e) is = w.state
    by (WaitsDial e) is =
        when (may_ask_again (lose_attempt e (record q.state { failures = q.state.failures + 1 })) e.number) (lost e)
        (fill-lined _ none (end_exchange-lined e.number _ (λ k i l. absurd (no_line_shrunk e.number (record q.state { failures = q.state.failures + 1 }) _ (lose_attempt-shrinks e (record q.state { failures = q.state.failures + 1 })) (w.dial e is).no_line k i l)) (lost e)))

out-lined : {b : Since} (n : ℕ) (s : State) → Lined b s → Lined b (out n s)
unfolding out
out-lined {b} n s h = lined (conns_fewer b s (λ k. not (is_conn n k)) (facts_of h))

dropped-lined : {b : Since} (n : ℕ) (s : State) → IsPlain b → Lined b s → Lined b (dropped n s)
unfolding dropped
dropped-lined n s p h = each_of (conn s n) h (λ k. when k.is_closing (out-lined n s h) (out-lined n _ (placing-lined s p.kept h).state))

dialled-lined : {b : Since} (n : ℕ) (host : Bytes) (port : ℕ) (q : Placement) → IsPlain b → q.state.top < n → asked_on n b.log ≡ [] → is_dial_of q.pause host port ≡ true → WasDialled b.log n host port → Settles b q → Lined b (dialled n host port q)
unfolding dialled
dialled-lined {b} n host port q p above silent dial now w = by q.pause refl
  where
    added : State
    added = record q.state { conns = q.state.conns ++ new_conn n host port q.state.clock ∷ []; top = n }

    by : (pause : Pause) → q.pause ≡ pause → Lined b (elim pause as (λ x. State) [ AllPlaced ↦ q.state | WaitsDrop k e ↦ q.state | WaitsDial e ↦ put_on e.number n added ])
    by AllPlaced is = w.state
    by (WaitsDrop k e) is = w.state
    by (WaitsDial e) is = put_on-lined e.number n added p.kept (record { no_line = no_line; given = (w.dial e is).given }) open_one goes (lined (conn_added b q.state (new_conn n host port q.state.clock) above refl refl silent now (facts_of w.state)))
      where
        split : (k : Conn) (ks : List Conn) → IsIn k (ks ++ new_conn n host port q.state.clock ∷ []) → IsIn k ks ⊎ (k ≡ new_conn n host port q.state.clock)
        split k [] (inl eq) = inr eq
        split k [] (inr none) = absurd none
        split k (j ∷ ks) (inl eq) = inl (inl eq)
        split k (j ∷ ks) (inr i) = elim (split k ks i) [ inl l ↦ inl (inr l) | inr r ↦ inr r ]

        no_line : (k : Conn) → IsIn k added.conns → IsIn e.number k.line → ⊥
        no_line k i l = at (split k q.state.conns i)
          where
            at : IsIn k q.state.conns ⊎ (k ≡ new_conn n host port q.state.clock) → ⊥
            at (inl j) = (w.dial e is).no_line k j l
            at (inr eq) = subst (λ (x : Conn). IsIn e.number x.line) eq l

        open_one : (k : Conn) → IsIn k added.conns → k.number ≡ n → k.is_closing ≡ false
        open_one k i number = at (split k q.state.conns i)
          where
            at : IsIn k q.state.conns ⊎ (k ≡ new_conn n host port q.state.clock) → k.is_closing ≡ false
            at (inl j) = let le : k.number ≤ q.state.top = (facts_of w.state).known k j in let none : ⊥ = omega arith in absurd none
            at (inr eq) = ap (λ (x : Conn). x.is_closing) eq

        goes : (d : Exchange) (k : Conn) → IsIn d added.exchanges → d.number ≡ e.number → IsIn k added.conns → k.number ≡ n → GoesTo d k
        goes d k j is_e i number = at (split k q.state.conns i)
          where
            it : d ≡ e
            it = one_of exchange_number q.state.exchanges d e (facts_of w.state).rise j (w.there e is) is_e

            at : IsIn k q.state.conns ⊎ (k ≡ new_conn n host port q.state.clock) → GoesTo d k
            at (inl l) = let le : k.number ≤ q.state.top = (facts_of w.state).known k l in let none : ⊥ = omega (arith, le, number, above) in absurd none
            at (inr eq) =
                goes_as d e k (ap (λ (x : Exchange). x.key) it)
                (goes_with e k (new_conn n host port q.state.clock) (ap (λ (x : Conn). x.host) eq) (ap (λ (x : Conn). x.port) eq) (dial_for e host port (sym (ap (λ (x : Pause). is_dial_of x host port) is) ∙ dial)))

gone-lined : {b : Since} (is_clean : Bool) (k : ℕ) (s : State) → IsPlain b → Lined b s → Lined b (gone is_clean k s)
unfolding gone
gone-lined is_clean k s p h = each_so (conn s k) (λ none. h) (λ j found. end_replies-lined _ (ended-lined is_clean j s p (in_find (is_conn k) j s.conns found).0 h))

hear-lined : {b : Since} (n : ℕ) (bytes : Bytes) (s : State) → Lined b s → Lined b (hear n bytes s)
unfolding hear
hear-lined n bytes s h = end_replies-lined _ (on_client-lined n (heard_by bytes) s h)

hang_up-lined : {b : Since} (n : ℕ) (s : State) → Lined b s → Lined b (hang_up n s)
unfolding hang_up
hang_up-lined n s h = when (is_writing s.owed n) (close_client-lined n false s h) (end_replies-lined _ (on_client-lined n (λ c. record c { has_hung_up = true }) s h))

said-lined : {b : Since} (n m : ℕ) (s : State) → Lined b s → Lined b (said n m s)
unfolding said
said-lined n m s h = each_of (client s n) h (λ x. end_replies-lined _ (on_client-lined n (said_by m) _ (use_said-lined m x s h)))

ending-lined : {b : Since} (s : State) → IsPlain b → Lined b s → Lined b (ending s)
unfolding ending
ending-lined s p h = begin_replies-lined _ (come_to-lined DecidingAgain s p h)

opened-lined : {b : Since} (n : ℕ) (s : State) → s.top < n → Lined b s → Lined b (opened n s)
unfolding opened
opened-lined {b} n s above h = lined (record {
  low = le_trans f.low (le_of_lt above);
  apart = f.apart;
  known = λ k i. le_trans (f.known k i) (le_of_lt above);
  rise = f.rise;
  given = f.given;
  spelled = f.spelled;
  lined = f.lined;
  placed = f.placed;
  hosts = f.hosts;
  dialled = f.dialled;
  distinct = f.distinct;
  closed = f.closed;
  streams = f.streams;
  answers = f.answers;
  kept = f.kept;
})
  where
    f : FactsOf b s
    f = facts_of h

shut-lined : {b : Since} (n : ℕ) (s : State) → Lined b s → Lined b (shut n s)
unfolding shut
shut-lined n s h = lined (facts_of (close_client-lined n false s h))

-- nobody is there
pub nobody : (b : Since) (s : State) → b.low ≤ s.top → b.kept ≡ None → s.exchanges ≡ [] → s.conns ≡ [] → Lined b s
nobody b s low none exchanges conns = lined (record {
  low = low;
  apart = subst (λ ks. AreRising (map conn_number ks)) (sym conns) tt;
  known = λ k i. absurd (subst (λ ks. IsIn k ks) conns i);
  rise = subst (λ es. AreRising (map exchange_number es)) (sym exchanges) tt;
  given = λ e i. absurd (subst (λ es. IsIn e es) exchanges i);
  spelled = λ e i. absurd (subst (λ es. IsIn e es) exchanges i);
  lined = λ k m i. absurd (subst (λ ks. IsIn k ks) conns i);
  placed = λ k e i. absurd (subst (λ ks. IsIn k ks) conns i);
  hosts = λ k e i. absurd (subst (λ ks. IsIn k ks) conns i);
  dialled = λ k i. absurd (subst (λ ks. IsIn k ks) conns i);
  distinct = λ k i. absurd (subst (λ ks. IsIn k ks) conns i);
  closed = λ k i. absurd (subst (λ ks. IsIn k ks) conns i);
  streams = λ k i. absurd (subst (λ ks. IsIn k ks) conns i);
  answers = λ k a i. absurd (subst (λ ks. IsIn k ks) conns i);
  kept = λ w x is. let both : None ≡ Some w = sym none ∙ is in absurd (cc both);
})

opening_same : (s : State) → Same s (opening_begun s)
unfolding opening_begun with_settings
opening_same s = by (are_texts s.term) (names_file s.term)
  where
    by_settings : (o : Option Settings) → Same s (with_settings o s)
    by_settings None = alike (record { clients_same = refl; exchanges_same = refl; conns_same = refl; next_same = refl; top_same = refl })
    by_settings (Some c) = alike (record { clients_same = refl; exchanges_same = refl; conns_same = refl; next_same = refl; top_same = refl })

    by : (a b : Bool) → Same s (elim a as (λ x. State) [ false ↦ with_settings None s | true ↦ elim b as (λ x. State) [ true ↦ record s { phase = IsWoken } | false ↦ with_settings (settings_in (reading_of s.term.words None)) s ] ])
    by false b = by_settings None
    by true true = alike (record { clients_same = refl; exchanges_same = refl; conns_same = refl; next_same = refl; top_same = refl })
    by true false = by_settings (settings_in (reading_of s.term.words None))

woken-lined : {b : Since} (image : Files) (s : State) → IsPlain b → b.low ≤ s.top → Lined b (woken image s)
unfolding woken
woken-lined {b} image s p low = still (opening_same _) (nobody b _ low p.kept refl refl)

-- ---- notes

take_decision-lined : {b : Since} (n : ℕ) (d : Decision) (s : State) → IsPlain b → Lined b s → Lined b (take_decision n d s)
unfolding take_decision
take_decision-lined n d s p h = each_of (client s n) h (λ c. regained-lined _ (lined (facts_of (decided-lined c d s p h))))

noted-lined : {b : Since} (remark : Remark) (s : State) → IsPlain b → Lined b s → Lined b (noted remark s)
unfolding noted
noted-lined (Taken m i d) s p h = take_decision-lined m d _ p (deciding-lined s p h)
noted-lined (Cut m cause) s p h = close_client-lined m true _ (deciding-lined s p h)
noted-lined (Kept key tag k extent) s p h = still (note_kept-same key extent s (itself s)) h
noted-lined (Gone key) s p h = still (note_gone-same key _ (itself _)) (come_to-lined Keeping s p h)
noted-lined (Forgotten key) s p h = forgotten_by-lined key s p h
noted-lined (Evicted key tag k i) s p h = evicted-lined _ (come_to-lined Evicting s p h)
noted-lined (Loaded key tag k i) s p h = still (load-same key i s (itself s)) h

-- ---- what is permitted

unhampered : (made : Option ℕ) (t : Bool) → (elim made as (λ c. Bool) [ Some who ↦ false | None ↦ t ]) ≡ true → t ≡ true
unhampered (Some who) t is = absurd (cc is)
unhampered None t is = is

opened_above : (s : State) (n : ℕ) → IsPermitted s (Opened n) → s.top < n
unfolding is_permitted permits
opened_above s n is = below s.top n (first_holds (is_new_number s n) (accepts s) (second_holds (is_awaiting s) (may_open s n) (unhampered s.made_room_for _ is)))

dialled_above : (s : State) (n : ℕ) (host : Bytes) (port : ℕ) → IsPermitted s (Dialled n host port) → s.top < n
unfolding is_permitted permits
dialled_above s n host port is = below s.top n (first_holds (is_new_number s n) (permits_dial s host port) (unhampered s.made_room_for _ is))

chosen : (t u : Bool) → (elim t as (λ c. Bool) [ true ↦ u | false ↦ false ]) ≡ true → u ≡ true
chosen true u is = is
chosen false u is = absurd (cc is)

third_holds : (x y z : Bool) → (not x && not y && z) ≡ true → z ≡ true
third_holds true y z is = absurd (cc is)
third_holds false true z is = absurd (cc is)
third_holds false false z is = is

dialled_for : (s : State) (n : ℕ) (host : Bytes) (port : ℕ) → IsPermitted s (Dialled n host port) → is_dial_of (placing (come_to Connecting s)).pause host port ≡ true
unfolding is_permitted permits
dialled_for s n host port is =
    let t : State = come_to Connecting s in
    third_holds t.is_stopped (has_closings t) (is_dial_of (placing t).pause host port)
    (chosen (is_at Connecting t) (may_dial t host port) (second_holds (is_new_number s n) (permits_dial s host port) (unhampered s.made_room_for _ is)))

dialled_top : (n : ℕ) (host : Bytes) (port : ℕ) (q : Placement) → is_dial_of q.pause host port ≡ true → (dialled n host port q).top ≡ n
unfolding dialled put_on on_conn on_exchange
dialled_top n host port q is = by q.pause is
  where
    by : (pause : Pause) → is_dial_of pause host port ≡ true → (elim pause as (λ c. State) [
      | AllPlaced ↦ q.state
      | WaitsDrop k e ↦ q.state
      | WaitsDial e ↦ put_on e.number n (record q.state { conns = q.state.conns ++ new_conn n host port q.state.clock ∷ []; top = n })
    ]).top ≡ n
    by AllPlaced at = absurd (cc at)
    by (WaitsDrop k e) at = absurd (cc at)
    by (WaitsDial e) at = refl

-- its number is new, and the last that was given
pub dialled_new : (s : State) (n : ℕ) (host : Bytes) (port : ℕ) → IsPermitted s (Dialled n host port) → (s.top < n) × ((after s (Dialled n host port)).top ≡ n)
unfolding changed
dialled_new s n host port is = (dialled_above s n host port is, dialled_top n host port (placing (come_to Connecting s)) (dialled_for s n host port is))

-- ---- all

-- nothing is asked of an origin, and nothing of one is read
abbrev pub IsQuiet : Happening → Type 0
IsQuiet (Asked n bytes) = ⊥
IsQuiet (Got n bytes) = ⊥
IsQuiet h = Unit {0}

-- the log ends with it
abbrev pub EndsWith : Log → Happening → Type 0
EndsWith log happening = (front : Log) × (front ++ happening ∷ [] ≡ log)

pub changed-lined : {b : Since} (s : State) (happening : Happening) → IsQuiet happening → IsPlain b → b.low ≡ s.top → ((n : ℕ) → s.top < n → asked_on n b.log ≡ []) → EndsWith b.log happening → IsPermitted s happening → Lined b s → Lined b (changed s happening)
unfolding changed
changed-lined s (Woke image) nothing p low silent last is h = woken-lined image s p (subst (λ n. n ≤ s.top) (sym low) (le_refl s.top))
changed-lined s (Waits w) nothing p low silent last is h = rest_with-lined w _ (ending-lined s p h)
changed-lined s (Clock seconds) nothing p low silent last is h = event-lined _ (tick-lined seconds s p h)
changed-lined s (Opened m) nothing p low silent last is h = event-lined _ (opened-lined m s (opened_above s m is) h)
changed-lined s (CanRead m) nothing p low silent last is h = event-lined _ (owing-lined (ReadOf m) m s h)
changed-lined s (CanWrite m) nothing p low silent last is h = event-lined _ (owing-lined (WriteTo m) m s h)
changed-lined s (Heard c bytes) nothing p low silent last is h = paid-lined _ (hear-lined c bytes s h)
changed-lined s (HungUp c) nothing p low silent last is h = paid-lined _ (hang_up-lined c s h)
changed-lined s (Said c offered bytes) nothing p low silent last is h = paid-lined _ (said-lined c (length bytes) s h)
changed-lined s (Shut c) nothing p low silent last is h = shut-lined c _ (come_to-lined Connecting s p h)
changed-lined s (Dialled m host port) nothing p low silent last is h =
    let above : s.top < m = dialled_above s m host port is in
    dialled-lined m host port (placing (come_to Connecting s)) p (subst (λ n. n < m) (sym (placing-top (come_to Connecting s) ∙ come_to-top Connecting s)) above) (silent m above) (dialled_for s m host port is) (record { front = last.0; behind = []; parts = last.1 }) (placing-lined _ p.kept (come_to-lined Connecting s p h))
changed-lined s (Undialled host port) nothing p low silent last is h = undialled-lined (placing (come_to Connecting s)) p.kept (placing-lined _ p.kept (come_to-lined Connecting s p h))
changed-lined s (Reached k) nothing p low silent last is h = event-lined _ (reached-lined k s h)
changed-lined s (Ended k) nothing p low silent last is h = paid-lined _ (gone-lined true k s p h)
changed-lined s (Broke k) nothing p low silent last is h = paid-lined _ (gone-lined false k _ p (event-lined s h))
changed-lined s (Asked k bytes) nothing p low silent last is h = absurd nothing
changed-lined s (Got k bytes) nothing p low silent last is h = absurd nothing
changed-lined s (Dropped k) nothing p low silent last is h = dropped-lined k _ p (come_to-lined Connecting s p h)
changed-lined s (NoneYet m) nothing p low silent last is h = paid-lined s h
changed-lined s (Began op) nothing p low silent last is h = begun_op-lined op s p h
changed-lined s (Did op ok) nothing p low silent last is h = ended_op-lined op ok s h
changed-lined s (Unread name) nothing p low silent last is h = unread-lined name s h
changed-lined s (Noted remark) nothing p low silent last is h = noted-lined remark s p h
changed-lined s (Rooted folder) nothing p low silent last is h = still (opened_to-same IsRooted true s (itself s)) h
changed-lined s (Listed ok) nothing p low silent last is h = still (opened_to-same IsListed ok s (itself s)) h
changed-lined s (Listens port ok) nothing p low silent last is h = still (opened_to-same IsListening ok s (itself s)) h
changed-lined s (Configured file text) nothing p low silent last is h = still (configured-same text s (itself s)) h
changed-lined s (Printed text) nothing p low silent last is h = h
changed-lined s Stopped nothing p low silent last is h = event-lined _ (lined (facts_of h))
