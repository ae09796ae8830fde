-- Each permitted happening keeps the bounds of what is connected, and so does a lawful log.
use Rattle.std.proofs.Common.{◌≡◌, ◌⊎◌, refl, ℕ, ◌+◌, ◌<◌, ◌≤◌, Bool, true, false, not, ◌==◌, ◌&&◌, ◌||◌, List, [], ◌∷◌, ◌++◌, map, filter, cond, length, bytes_eq, is_some, Option, Some, None, inl, inr, sym, subst, ap, ◌∙◌, le_refl, le_of_lt, lt_of_le_of_lt, arith}
use Rattle.std.specs.List.{list_any}
use Rattle.pp_world.specs.Log.{Log}
use Rattle.pp_world.specs.declared.happening.Happening.TheVariants.{Woke, Waits, Clock, Opened, CanRead, CanWrite, Heard, HungUp, Said, Shut, Dialled, Undialled, Reached, Ended, Broke, Asked, Got, Dropped, NoneYet, Began, Did, Unread, Noted, Rooted, Listed, Listens, Configured, Printed, Stopped}
use Rattle.pp_world.specs.declared.happening.Happening.{Happening}
use Rattle.pp_world.specs.declared.note.Remark.TheVariants.{Taken, Cut, Kept as WasKept, Gone, Forgotten, Evicted, Loaded}
use Rattle.pp_world.specs.declared.note.Decision.{Decision}
use Rattle.pp_world.specs.declared.note.Remark.{Remark}
use Rattle.pp_world.specs.declared.op.DiskOp.{DiskOp}
use Rattle.pp_law.specs.After.{new_client, new_conn, event, opened, owing, reached, paid, said, gone, take_decision, evicted, waits_for_row, brings_to, dropping_body, refused_row, leave_memory, forgotten_by, noted, begun_op, ended_op, unread, shut, dialled, refused_dial, undialled, out, dropped, changed, after}
use Rattle.pp_law.specs.Closing.{close_client}
use Rattle.pp_law.specs.Connections.{client, conn, is_client, is_conn, may_ask_again, put_on, placing, Placement, Pause, AllPlaced, WaitsDial, WaitsDrop}
use Rattle.pp_law.specs.Lawful.{LawfulFrom}
use Rattle.pp_law.specs.Leaving.{Leaving, ForAnother, ForMemory, BeforeDecision, leaving_as}
use Rattle.pp_law.specs.Lists.{Bytes, change}
use Rattle.pp_law.specs.Opening.{is_at, is_opening, is_recovered, is_same_phase, may_fail, permits_configured, permits_listens}
use Rattle.pp_law.specs.Permits.{is_permitted, IsPermitted, permits, permits_dial, is_new_number, may_open, is_dial_of, may_dial, may_drop, gives_way, is_drop_of}
use Rattle.pp_law.specs.Phases.{is_awaiting, due_victim, come_to, has_closings}
use Rattle.pp_law.specs.Replies.{said_by}
use Rattle.pp_law.specs.Served.{accepts}
use Rattle.pp_law.specs.State.{State, RowRefused, Phase, Conn, Exchange, Instance, IsWoken, IsConfigured, IsRooted, IsListed, IsListening, Awaiting, Handling, Evicting, Keeping, Connecting, Owed, ReadOf, WriteTo}
use Rattle.pp_law.specs.Table.{forget}
use Rattle.pp_laws.specs.Runs.{after_all, IsIn}
use Rattle.pp_laws.proofs.Lists.{in_find, in_front, in_push, one_of, rise_push}
use Rattle.pp_laws.proofs.Sound.{Since, Sound, conn_number, exchange_number, facts_of as sound_facts}
use Rattle.pp_laws.proofs.Happenings.{after-sound}
use Rattle.pp_laws.specs.Numbers.{AreRising}
use Rattle.pp_law.specs.Asking.{permits_asked}
use Rattle.pp_laws_bounds.proofs.Asks.{asked_left}
use Rattle.pp_laws.proofs.Tests.{below, first_holds, same_bytes, same_number, second_holds}
use Rattle.pp_laws.proofs.Tops.{come_to-top, placing-top}
use Rattle.pp_laws_bounds.specs.Bounds.{goes_to}
use Rattle.pp_laws_bounds.proofs.Cases.{by_pause, each_of, each_so, when}
use Rattle.pp_laws_bounds.proofs.Changes.{client_pushed, clients_changed, clients_filtered, conns_filtered, exchanges_changed, same_exchange}
use Rattle.pp_laws_bounds.proofs.Clients.{ask-kept, close_client-kept, decided-kept, end_replies-kept, fill-kept, hang_up-kept, hear-kept, regained-kept, use_said-kept}
use Rattle.pp_laws_bounds.proofs.Counts.{count-push, in_last, length-push}
use Rattle.pp_laws_bounds.proofs.Disk.{begin_in_opening-kept, begin_in_turn-kept, close_name-kept, configured-kept, end_op-kept, load-kept, lose_in_opening-kept, note_gone-kept, note_kept-kept, opened_to-kept, woken-kept}
use Rattle.pp_laws_bounds.proofs.Exchanges.{end_exchange-kept, lose_attempt-kept, on_client-kept, on_conn-kept}
use Rattle.pp_laws_bounds.proofs.Kept.{FactsOf, Kept, Stands, facts_of, is_early, kept}
use Rattle.pp_laws_bounds.proofs.Pieces.{ended-kept, got-kept}
use Rattle.pp_laws_bounds.proofs.Places.{IsIdle, MayDial, NoneCloses, dial_room, drop_idle, placing-closes, placing-kept, placing-paused, placing-phase, placing-stopped, put_on-kept}
use Rattle.pp_laws_bounds.proofs.Rows.{drop_chunk-kept, forget-kept}
use Rattle.pp_laws_bounds.proofs.Steps.{come_to-kept, come_to_decide-kept, deciding-kept, ending-kept, in_phase-kept, rest_with-kept, tick-kept, touch-kept}

-- ---- events

event-kept : (s : State) → Kept [] s → Kept [] (event s)
unfolding event
event-kept s h = regained-kept _ (in_phase-kept Handling s refl h)

opened-kept : (n : ℕ) (s : State) → s.top < n → length s.clients < 256 → Kept [] s → Kept [] (opened n s)
unfolding opened
opened-kept n s above room h = kept (client_pushed [] s (new_client n s.clock) n above room (facts_of h))

owing-kept : (owed : Owed) (n : ℕ) (s : State) → Kept [] s → Kept [] (owing owed n s)
unfolding owing
owing-kept owed n s h = kept (facts_of (touch-kept n s h))

reached-kept : (n : ℕ) (s : State) → Kept [] s → Kept [] (reached n s)
unfolding reached
reached-kept n s h = touch-kept n _ (on_conn-kept n (λ k. record k { is_reached = true }) s (λ k. record { number = refl; host = refl; port = refl; line = refl; closing = refl }) h)

-- ---- reads and writes

paid-kept : (s : State) → Kept [] s → Kept [] (paid s)
unfolding paid
paid-kept s h = regained-kept _ (kept (facts_of h))

said-kept : (c n : ℕ) (s : State) → Kept [] s → Kept [] (said c n s)
unfolding said
said-kept c n s h = each_of (client s c) h (λ x. end_replies-kept _ (on_client-kept c (said_by n) _ (use_said-kept n x s h)))

gone-kept : (is_clean : Bool) (n : ℕ) (s : State) → Kept [] s → Kept [] (gone is_clean n s)
unfolding gone
gone-kept is_clean n s h = each_so (conn s n) (λ isnt. h) (λ k found. end_replies-kept _ (ended-kept is_clean k s (in_find (is_conn n) k s.conns found).0 h))

-- ---- notes

take_decision-kept : (n : ℕ) (d : Decision) (s : State) → Kept [] s → Kept [] (take_decision n d s)
unfolding take_decision
take_decision-kept n d s h = each_of (client s n) h (λ c. regained-kept _ (kept (facts_of (decided-kept c d s h))))

evicted-kept : (s : State) → Kept [] s → Kept [] (evicted s)
unfolding evicted
evicted-kept s h = each_of (due_victim s) h (λ place. drop_chunk-kept place.0 place.1 s h)

refused_row-kept : (x : Instance) (s : State) → Kept [] s → Kept [] (refused_row x s)
unfolding refused_row
refused_row-kept x s h =
    kept (clients_changed [] (record (forget x.id s) { exchanges = change (brings_to x.id) dropping_body (forget x.id s).exchanges }) (waits_for_row x.id) (λ c. record c { course = RowRefused })
    (exchanges_changed [] (forget x.id s) (brings_to x.id) dropping_body (λ e. same_exchange _ e refl refl refl refl) (facts_of (forget-kept x.id s h))))

leave_memory-kept : (how : Leaving) (s : State) → Kept [] s → Kept [] (leave_memory how s)
unfolding leave_memory
leave_memory-kept ForAnother s h = kept (facts_of (come_to-kept Evicting s h))
leave_memory-kept (ForMemory x) s h = refused_row-kept x _ (come_to-kept Evicting s h)
leave_memory-kept (BeforeDecision x) s h = kept (facts_of (forget-kept x.id _ (come_to_decide-kept s h)))

forgotten_by-kept : (key : Bytes) (s : State) → Kept [] s → Kept [] (forgotten_by key s)
unfolding forgotten_by
forgotten_by-kept key s h = each_of (leaving_as s key) h (λ how. leave_memory-kept how s h)

noted-kept : (remark : Remark) (s : State) → Kept [] s → Kept [] (noted remark s)
unfolding noted
noted-kept (Taken c i d) s h = take_decision-kept c d _ (deciding-kept s h)
noted-kept (Cut c cause) s h = close_client-kept c true _ (deciding-kept s h)
noted-kept (WasKept key tag n extent) s h = note_kept-kept key extent s h
noted-kept (Gone key) s h = note_gone-kept key _ (come_to-kept Keeping s h)
noted-kept (Forgotten key) s h = forgotten_by-kept key s h
noted-kept (Evicted key tag n i) s h = evicted-kept _ (come_to-kept Evicting s h)
noted-kept (Loaded key tag n i) s h = load-kept key i s h

-- ---- the disk

begun_op-kept : (op : DiskOp) (s : State) → Kept [] s → Kept [] (begun_op op s)
unfolding begun_op
begun_op-kept op s h = when (is_opening s) (begin_in_opening-kept op s h) (begin_in_turn-kept op _ (come_to-kept Keeping s h))

ended_op-kept : (op : DiskOp) (ok : Bool) (s : State) → Kept [] s → Kept [] (ended_op op ok s)
unfolding ended_op
ended_op-kept op true s h = end_op-kept op true s h
ended_op-kept op false s h = lose_in_opening-kept s.agenda.name _ (end_op-kept op false s h)

unread-kept : (name : Bytes) (s : State) → Kept [] s → Kept [] (unread name s)
unfolding unread
unread-kept name s h = paid-kept _ (lose_in_opening-kept name _ (close_name-kept name s h))

-- ---- closings and places

shut-kept : (n : ℕ) (s : State) → Kept [] s → Kept [] (shut n s)
unfolding shut
shut-kept n s h = kept (clients_filtered [] (close_client n false s) (λ c. not (is_client n c)) (facts_of (close_client-kept n false s h)))

-- a connection to where there is room for one
pushed_conn : (s : State) (k : Conn) → k.line ≡ [] → s.top < k.number → is_early s.phase ≡ false → MayDial k.host k.port s → FactsOf [] s → FactsOf [] (record s { conns = s.conns ++ k ∷ []; top = k.number })
pushed_conn s k nothing above apart room h = record {
  few_clients = h.few_clients;
  lines = record {
    rise = rise_push conn_number s.conns k h.lines.rise (λ j i. lt_of_le_of_lt (h.given j i) above);
    few = let e : length (s.conns ++ k ∷ []) ≡ length s.conns + 1 = length-push s.conns k in let lt : length s.conns < 64 = room.0 in omega arith;
    spared = λ host port. spared_by host port (goes_to host port k) refl;
    short = λ j i. short_by j (in_push j s.conns k i);
    closed = λ j i. closed_by j (in_push j s.conns k i);
  };
  given = λ j i. given_by j (in_push j s.conns k i);
  asked_well = h.asked_well;
  lined = λ going e n i is. lined_by e n (h.lined going e n i is);
  none_yet = λ at. let both : true ≡ false = sym at ∙ apart in absurd (cc both);
}
  where
    same_count : (host : Bytes) (port : ℕ) → k.host ≡ host → k.port ≡ port → length (filter (goes_to host port) s.conns) < s.settings.host_connections
    same_count host port at on = subst (λ x. length (filter (goes_to x port) s.conns) < s.settings.host_connections) at (subst (λ x. length (filter (goes_to k.host x) s.conns) < s.settings.host_connections) on room.1)

    spared_by : (host : Bytes) (port : ℕ) (t : Bool) → goes_to host port k ≡ t → length (filter (goes_to host port) (s.conns ++ k ∷ [])) ≤ s.settings.host_connections
    spared_by host port true is =
        let e : length (filter (goes_to host port) (s.conns ++ k ∷ [])) ≡ length (filter (goes_to host port) s.conns) + 1 = count-push (goes_to host port) s.conns k ∙ ap (λ t. length (filter (goes_to host port) s.conns) + length (cond t (k ∷ []) [])) is in
        let lt : length (filter (goes_to host port) s.conns) < s.settings.host_connections = same_count host port (same_bytes k.host host (first_holds (bytes_eq k.host host) (k.port == port) is)) (same_number k.port port (second_holds (bytes_eq k.host host) (k.port == port) is)) in
        omega arith
    spared_by host port false is =
        let e : length (filter (goes_to host port) (s.conns ++ k ∷ [])) ≡ length (filter (goes_to host port) s.conns) + 0 = count-push (goes_to host port) s.conns k ∙ ap (λ t. length (filter (goes_to host port) s.conns) + length (cond t (k ∷ []) [])) is in
        let le : length (filter (goes_to host port) s.conns) ≤ s.settings.host_connections = h.lines.spared host port in
        omega arith

    empty : length k.line ≡ 0
    empty = ap (λ (ns : List ℕ). length ns) nothing

    short_by : (j : Conn) → IsIn j s.conns ⊎ (j ≡ k) → length j.line ≤ 8
    short_by j (inl i) = h.lines.short j i
    short_by j (inr eq) = let e : length j.line ≡ 0 = ap (λ (x : Conn). length x.line) eq ∙ empty in omega arith

    closed_by : (j : Conn) → IsIn j s.conns ⊎ (j ≡ k) → j.is_closing ≡ true → j.line ≡ []
    closed_by j (inl i) = h.lines.closed j i
    closed_by j (inr eq) = λ closing. ap (λ (x : Conn). x.line) eq ∙ nothing

    given_by : (j : Conn) → IsIn j s.conns ⊎ (j ≡ k) → j.number ≤ k.number
    given_by j (inl i) = le_of_lt (lt_of_le_of_lt (h.given j i) above)
    given_by j (inr eq) = subst (λ n. n ≤ k.number) (sym (ap conn_number eq)) (le_refl k.number)

    lined_by : (e : Exchange) (n : ℕ) → Stands e n s.conns ⊎ IsIn e.number [] → Stands e n (s.conns ++ k ∷ []) ⊎ IsIn e.number []
    lined_by e n (inl w) = inl (w.0, in_front w.0 s.conns (k ∷ []) w.1, w.2, w.3)
    lined_by e n (inr l) = inr l

-- what a dial tells
record Dials (s : State) (host : Bytes) (port : ℕ) : Type 0 where
  phase : is_at Connecting (come_to Connecting s) ≡ true
  closes : has_closings (come_to Connecting s) ≡ false
  stops : (come_to Connecting s).is_stopped ≡ false
  dial : is_dial_of (placing (come_to Connecting s)).pause host port ≡ true

first_of_three : (a b c : Bool) → (a && b && c) ≡ true → a ≡ true
first_of_three true b c is = refl
first_of_three false b c is = absurd (cc is)

three_hold : (a b c : Bool) → (not a && not b && c) ≡ true → (a ≡ false) × (b ≡ false) × (c ≡ true)
three_hold true b c is = absurd (cc is)
three_hold false true c is = absurd (cc is)
three_hold false false c is = (refl, refl, is)

chosen : (t u : Bool) → (elim t as (λ c. Bool) [ true ↦ u | false ↦ false ]) ≡ true → (t ≡ true) × (u ≡ true)
chosen true u is = (refl, is)
chosen false u is = absurd (cc is)

dials_by : (s : State) (host : Bytes) (port : ℕ) → permits_dial s host port ≡ true → Dials s host port
dials_by s host port is =
    let w = chosen (is_at Connecting (come_to Connecting s)) (may_dial (come_to Connecting s) host port) is in
    let v = three_hold (come_to Connecting s).is_stopped (has_closings (come_to Connecting s)) (is_dial_of (placing (come_to Connecting s)).pause host port) w.1 in
    record { phase = w.0; closes = v.1; stops = v.0; dial = v.2 }

unhampered : (made : Option ℕ) (t : Bool) → (elim made as (λ c. Bool) [ Some who ↦ false | None ↦ t ]) ≡ true → t ≡ true
unhampered (Some who) t is = absurd (cc is)
unhampered None t is = is

dialled_so : (s : State) (n : ℕ) (host : Bytes) (port : ℕ) → IsPermitted s (Dialled n host port) → (s.top < n) × Dials s host port
unfolding is_permitted permits
dialled_so s n host port is =
    let w : (is_new_number s n && permits_dial s host port) ≡ true = unhampered s.has_made_room _ is in
    (below s.top n (first_holds (is_new_number s n) (permits_dial s host port) w), dials_by s host port (second_holds (is_new_number s n) (permits_dial s host port) w))

-- at one phase it is not at another
apart_phases : (phase : Phase) → is_same_phase Connecting phase ≡ true → is_early phase ≡ false
apart_phases Connecting is = refl
apart_phases phase is = grind arith

neither : (a b : Bool) → (a || b) ≡ false → b ≡ false
neither true b is = absurd (cc is)
neither false b is = is

any_false : (ks : List Conn) → list_any (λ (k : Conn). k.is_closing) ks ≡ false → (k : Conn) → IsIn k ks → k.is_closing ≡ false
any_false [] is k i = absurd i
any_false (j ∷ ks) is k i = by j.is_closing refl i (λ rest at. any_false ks rest k at)
  where
    by : (t : Bool) → j.is_closing ≡ t → (k ≡ j) ⊎ IsIn k ks → (list_any (λ (x : Conn). x.is_closing) ks ≡ false → IsIn k ks → k.is_closing ≡ false) → k.is_closing ≡ false
    by true hit at rest = let both : true ≡ false = sym (ap (λ t. t || list_any (λ (x : Conn). x.is_closing) ks) hit) ∙ is in absurd (cc both)
    by false isnt (inl eq) rest = ap (λ (x : Conn). x.is_closing) eq ∙ isnt
    by false isnt (inr at) rest = rest (neither j.is_closing (list_any (λ (x : Conn). x.is_closing) ks) is) at

none_closes : (s : State) → has_closings s ≡ false → NoneCloses s
none_closes s is = any_false s.conns (neither (list_any (λ c. c.is_closing) s.clients) (list_any (λ k. k.is_closing) s.conns) is)

dial_of : (pause : Pause) (host : Bytes) (port : ℕ) → is_dial_of pause host port ≡ true → (e : Exchange) × (pause ≡ WaitsDial e) × (e.key.host ≡ host) × (e.key.port ≡ port)
dial_of AllPlaced host port is = absurd (cc is)
dial_of (WaitsDrop k e) host port is = absurd (cc is)
dial_of (WaitsDial e) host port is =
    (e, refl, same_bytes e.key.host host (first_holds (bytes_eq e.key.host host) (e.key.port == port) is), same_number e.key.port port (second_holds (bytes_eq e.key.host host) (e.key.port == port) is))

dialled-kept : (n : ℕ) (host : Bytes) (port : ℕ) (s : State) → s.top < n → Dials s host port → Kept [] s → Kept [] (dialled n host port (placing (come_to Connecting s)))
unfolding dialled
dialled-kept n host port s above d h = by (placing (come_to Connecting s)).pause refl
  where
    there : State
    there = come_to Connecting s

    placed : State
    placed = (placing (come_to Connecting s)).state

    is_kept : Kept [] (placing (come_to Connecting s)).state
    is_kept = placing-kept _ (come_to-kept Connecting s h)

    apart : is_early (placing (come_to Connecting s)).state.phase ≡ false
    apart = ap is_early (placing-phase (come_to Connecting s)) ∙ apart_phases (come_to Connecting s).phase d.phase

    new_one : (e : Exchange) → (placing (come_to Connecting s)).pause ≡ WaitsDial e → MayDial host port (placing (come_to Connecting s)).state
    new_one e at =
        let w = dial_of (placing (come_to Connecting s)).pause host port d.dial in
        let same_one : e ≡ w.0 = waits e w.0 (sym at ∙ w.1) in
        let room = dial_room (placing (come_to Connecting s)).state e (placing-closes (come_to Connecting s) (none_closes (come_to Connecting s) d.closes)) ((placing-paused (come_to Connecting s)).dial e at) in
        subst (λ x. MayDial x port (placing (come_to Connecting s)).state) (ap (λ (x : Exchange). x.key.host) same_one ∙ w.2) (subst (λ x. MayDial e.key.host x (placing (come_to Connecting s)).state) (ap (λ (x : Exchange). x.key.port) same_one ∙ w.3) room)
      where
        waits : (x y : Exchange) → WaitsDial x ≡ WaitsDial y → x ≡ y
        waits x y is = cc

    lower : (placing (come_to Connecting s)).state.top < n
    lower = subst (λ m. m < n) (sym (placing-top (come_to Connecting s) ∙ come_to-top Connecting s)) above

    by : (pause : Pause) → (placing (come_to Connecting s)).pause ≡ pause → Kept [] (elim pause as (λ c. State) [
      | AllPlaced ↦ (placing (come_to Connecting s)).state
      | WaitsDrop k e ↦ (placing (come_to Connecting s)).state
      | WaitsDial e ↦ put_on e.number n (record (placing (come_to Connecting s)).state { conns = (placing (come_to Connecting s)).state.conns ++ new_conn n host port (placing (come_to Connecting s)).state.clock ∷ []; top = n })
    ])
    by AllPlaced is = is_kept
    by (WaitsDrop k e) is = is_kept
    by (WaitsDial e) is =
        put_on-kept e.number n _
        (record { conn = new_conn n host port (placing (come_to Connecting s)).state.clock; there = in_last _ (placing (come_to Connecting s)).state.conns; number = refl; is_open = refl; room = omega arith })
        (kept (pushed_conn (placing (come_to Connecting s)).state (new_conn n host port (placing (come_to Connecting s)).state.clock) refl lower apart (new_one e is) (facts_of is_kept)))

refused_dial-kept : (e : Exchange) (s : State) → Kept [] s → Kept [] (refused_dial e s)
unfolding refused_dial
refused_dial-kept e s h = when (may_ask_again s e.number) h (fill-kept _ (end_exchange-kept e.number s h))

undialled-kept : (p : Placement) → Kept [] p.state → Kept [] (undialled p)
unfolding undialled
undialled-kept p h = by_pause p.pause h (λ k e. h) (λ e. refused_dial-kept e _ (lose_attempt-kept e _ (kept (facts_of h))))

-- those of that number carry nothing, or it is behind Stop
out-kept : (n : ℕ) (s : State) → (s.is_stopped ≡ false → (k : Conn) → IsIn k s.conns → k.number ≡ n → k.line ≡ []) → Kept [] s → Kept [] (out n s)
unfolding out
out-kept n s idle h = kept (conns_filtered [] s (λ k. not (is_conn n k)) (λ going k i isnt. idle going k i (same_number k.number n (twice (is_conn n k) isnt))) (facts_of h))
  where
    twice : (t : Bool) → not t ≡ false → t ≡ true
    twice true is = refl
    twice false is = absurd (cc is)

either : (a b : Bool) → (a || b) ≡ true → (a ≡ true) ⊎ (b ≡ true)
either true b is = inl refl
either false b is = inr is

not_this : (t : Bool) → not t ≡ true → t ≡ false
not_this true is = absurd (cc is)
not_this false is = refl

-- one that is not closing goes behind Stop, or gives way
dropped_by : (s : State) (n : ℕ) (ks : List Conn) (k : Conn) → conn s n ≡ Some k → k.is_closing ≡ false → (j : Conn) → IsIn j s.conns → (is_conn n j && (j.is_closing || s.is_stopped)) ≡ true → FactsOf [] s → s.is_stopped ≡ true
dropped_by s n ks k found isnt j i is h =
    let at = in_find (is_conn n) k s.conns found in
    let w = first_holds (is_conn n j) (j.is_closing || s.is_stopped) is in
    let one : j ≡ k = one_of conn_number s.conns j k h.lines.rise i at.0 (same_number j.number n w ∙ sym (same_number k.number n at.1)) in
    by (either j.is_closing s.is_stopped (second_holds (is_conn n j) (j.is_closing || s.is_stopped) is)) one
  where
    by : (j.is_closing ≡ true) ⊎ (s.is_stopped ≡ true) → j ≡ k → s.is_stopped ≡ true
    by (inl closing) one = let both : true ≡ false = sym closing ∙ ap (λ (x : Conn). x.is_closing) one ∙ isnt in absurd (cc both)
    by (inr stopped) one = stopped

any_in : (p : Conn → Bool) (ks : List Conn) → list_any p ks ≡ true → (k : Conn) × IsIn k ks × (p k ≡ true)
any_in p [] is = absurd (cc is)
any_in p (j ∷ ks) is = by (either (p j) (list_any p ks) is) (any_in p ks)
  where
    by : (p j ≡ true) ⊎ (list_any p ks ≡ true) → (list_any p ks ≡ true → (k : Conn) × IsIn k ks × (p k ≡ true)) → (k : Conn) × IsIn k (j ∷ ks) × (p k ≡ true)
    by (inl hit) rest = (j, inl refl, hit)
    by (inr more) rest = let r = rest more in (r.0, inr r.1, r.2)

drop_of : (pause : Pause) (n : ℕ) → is_drop_of pause n ≡ true → (e : Exchange) × (pause ≡ WaitsDrop n e)
drop_of AllPlaced n is = absurd (cc is)
drop_of (WaitsDial e) n is = absurd (cc is)
drop_of (WaitsDrop k e) n is = (e, ap (λ m. WaitsDrop m e) (same_number k n is))

idle_at : (s : State) (n : ℕ) → IsIdle s n → FactsOf [] s → (k : Conn) → IsIn k s.conns → k.number ≡ n → k.line ≡ []
idle_at s n w h k i number = ap (λ (x : Conn). x.line) (one_of conn_number s.conns k w.conn h.lines.rise i w.there (number ∙ sym w.number)) ∙ w.idle

dropped-kept : (n : ℕ) (s : State) → may_drop s n ≡ true → Kept [] s → Kept [] (dropped n s)
unfolding dropped
dropped-kept n s is h = each_so (conn s n) (λ none. h) (λ k found. by k found k.is_closing refl)
  where
    facts : FactsOf [] s
    facts = facts_of h

    is_placed : Kept [] (placing s).state
    is_placed = placing-kept s h

    carries_nothing : (k : Conn) → conn s n ≡ Some k → k.is_closing ≡ true → (j : Conn) → IsIn j s.conns → j.number ≡ n → j.line ≡ []
    carries_nothing k found closing j i number =
        let at = in_find (is_conn n) k s.conns found in
        let one : j ≡ k = one_of conn_number s.conns j k facts.lines.rise i at.0 (number ∙ sym (same_number k.number n at.1)) in
        ap (λ (x : Conn). x.line) one ∙ facts.lines.closed k at.0 closing

    gives : (k : Conn) → conn s n ≡ Some k → k.is_closing ≡ false → (list_any (λ j. is_conn n j && (j.is_closing || s.is_stopped)) s.conns ≡ true) ⊎ (gives_way s n ≡ true)
        → (placing s).state.is_stopped ≡ false → (j : Conn) → IsIn j (placing s).state.conns → j.number ≡ n → j.line ≡ []
    gives k found isnt (inl stopped) going j i number =
        let w = any_in (λ x. is_conn n x && (x.is_closing || s.is_stopped)) s.conns stopped in
        let both : true ≡ false = sym (dropped_by s n s.conns k found isnt w.0 w.1 w.2 facts) ∙ sym (placing-stopped s) ∙ going in absurd (cc both)
    gives k found isnt (inr way) going j i number =
        let w = drop_of (placing s).pause n (second_holds (not (has_closings s)) (is_drop_of (placing s).pause n) way) in
        idle_at (placing s).state n (drop_idle (placing s).state w.0 n ((placing-paused s).drop n w.0 w.1)) (facts_of is_placed) j i number

    by : (k : Conn) → conn s n ≡ Some k → (t : Bool) → k.is_closing ≡ t → Kept [] (elim t as (λ c. State) [ true ↦ out n s | false ↦ out n (placing s).state ])
    by k found true closing = out-kept n s (λ going. carries_nothing k found closing) h
    by k found false isnt = out-kept n (placing s).state (gives k found isnt (either _ _ is)) is_placed

dropped_so : (s : State) (n : ℕ) → IsPermitted s (Dropped n) → may_drop (come_to Connecting s) n ≡ true
unfolding is_permitted permits
dropped_so s n is = (chosen (is_at Connecting (come_to Connecting s)) (may_drop (come_to Connecting s) n) (unhampered s.has_made_room _ is)).1

-- ---- what is permitted

pub opened_so : (s : State) (n : ℕ) → IsPermitted s (Opened n) → (s.top < n) × (length s.clients < 256)
unfolding is_permitted permits
opened_so s n is =
    let w : (is_awaiting s && may_open s n) ≡ true = unhampered s.has_made_room _ is in
    let v : may_open s n ≡ true = second_holds (is_awaiting s) (may_open s n) w in
    (below s.top n (first_holds (is_new_number s n) (accepts s) v), below (length s.clients) 256 (second_holds (is_new_number s n) (accepts s) v))

-- at each place of the opening it is early, and where an event is awaited it is not
at_woken : (phase : Phase) → is_same_phase IsWoken phase ≡ true → is_early phase ≡ true
at_woken IsWoken is = refl
at_woken phase is = grind arith

at_configured : (phase : Phase) → is_same_phase IsConfigured phase ≡ true → is_early phase ≡ true
at_configured IsConfigured is = refl
at_configured phase is = grind arith

at_rooted : (phase : Phase) → is_same_phase IsRooted phase ≡ true → is_early phase ≡ true
at_rooted IsRooted is = refl
at_rooted phase is = grind arith

at_listed : (phase : Phase) → is_same_phase IsListed phase ≡ true → is_early phase ≡ true
at_listed IsListed is = refl
at_listed phase is = grind arith

at_awaiting : (phase : Phase) → is_same_phase Awaiting phase ≡ true → is_early phase ≡ false
at_awaiting Awaiting is = refl
at_awaiting phase is = grind arith

configured_so : (s : State) (file : Bytes) (text : Option Bytes) → IsPermitted s (Configured file text) → is_early s.phase ≡ true
unfolding is_permitted permits
configured_so s file text is =
    let w : (permits_configured s file && may_fail s (is_some text)) ≡ true = unhampered s.has_made_room _ is in
    at_woken s.phase (first_holds (is_at IsWoken s) _ (first_holds (permits_configured s file) _ w))

rooted_so : (s : State) (folder : Bytes) → IsPermitted s (Rooted folder) → is_early s.phase ≡ true
unfolding is_permitted permits
rooted_so s folder is = at_configured s.phase (first_holds (is_at IsConfigured s) _ (unhampered s.has_made_room _ is))

listed_so : (s : State) (ok : Bool) → IsPermitted s (Listed ok) → is_early s.phase ≡ true
unfolding is_permitted permits
listed_so s ok is = at_rooted s.phase (first_holds (is_at IsRooted s) (may_fail s ok) (unhampered s.has_made_room _ is))

listens_so : (s : State) (port : ℕ) (ok : Bool) → IsPermitted s (Listens port ok) → is_early s.phase ≡ true
unfolding is_permitted permits
listens_so s port ok is =
    let w : (permits_listens s port && may_fail s ok) ≡ true = unhampered s.has_made_room _ is in
    at_listed s.phase (first_of_three (is_at IsListed s) (port == s.settings.port) (is_recovered s) (first_holds (permits_listens s port) (may_fail s ok) w))

awaiting_so : (s : State) → IsPermitted s Stopped → is_early s.phase ≡ false
unfolding is_permitted permits
awaiting_so s is = at_awaiting s.phase (unhampered s.has_made_room (is_awaiting s) is)

asked_so : (s : State) (k : ℕ) (bytes : Bytes) → IsPermitted s (Asked k bytes) → permits_asked s k bytes ≡ true
unfolding is_permitted permits
asked_so s k bytes is = unhampered s.has_made_room _ is

-- ---- all

-- exchanges have numbers of their own
abbrev pub AreNumbered : State → Type 0
AreNumbered s = AreRising (map exchange_number s.exchanges)

changed-kept : (s : State) (happening : Happening) → IsPermitted s happening → AreNumbered s → Kept [] s → Kept [] (changed s happening)
unfolding changed
changed-kept s (Woke image) is rise h = woken-kept image s
changed-kept s (Waits w) is rise h = rest_with-kept w _ (ending-kept s h)
changed-kept s (Clock seconds) is rise h = event-kept _ (tick-kept seconds s h)
changed-kept s (Opened n) is rise h = event-kept _ (opened-kept n s (opened_so s n is).0 (opened_so s n is).1 h)
changed-kept s (CanRead n) is rise h = event-kept _ (owing-kept (ReadOf n) n s h)
changed-kept s (CanWrite n) is rise h = event-kept _ (owing-kept (WriteTo n) n s h)
changed-kept s (Heard c bytes) is rise h = paid-kept _ (hear-kept c bytes s h)
changed-kept s (HungUp c) is rise h = paid-kept _ (hang_up-kept c s h)
changed-kept s (Said c offered bytes) is rise h = paid-kept _ (said-kept c (length bytes) s h)
changed-kept s (Shut c) is rise h = shut-kept c _ (come_to-kept Connecting s h)
changed-kept s (Dialled n host port) is rise h = dialled-kept n host port s (dialled_so s n host port is).0 (dialled_so s n host port is).1 h
changed-kept s (Undialled host port) is rise h = undialled-kept (placing (come_to Connecting s)) (placing-kept _ (come_to-kept Connecting s h))
changed-kept s (Reached k) is rise h = event-kept _ (reached-kept k s h)
changed-kept s (Ended k) is rise h = paid-kept _ (gone-kept true k s h)
changed-kept s (Broke k) is rise h = paid-kept _ (gone-kept false k _ (event-kept s h))
changed-kept s (Asked k bytes) is rise h = paid-kept _ (ask-kept k (length bytes) s (asked_left s k bytes rise (facts_of h).asked_well (asked_so s k bytes is)) h)
changed-kept s (Got k bytes) is rise h = paid-kept _ (end_replies-kept _ (got-kept (length bytes) k bytes s h))
changed-kept s (Dropped k) is rise h = dropped-kept k _ (dropped_so s k is) (come_to-kept Connecting s h)
changed-kept s (NoneYet n) is rise h = paid-kept s h
changed-kept s (Began op) is rise h = begun_op-kept op s h
changed-kept s (Did op ok) is rise h = ended_op-kept op ok s h
changed-kept s (Unread name) is rise h = unread-kept name s h
changed-kept s (Noted remark) is rise h = noted-kept remark s h
changed-kept s (Rooted folder) is rise h = opened_to-kept IsRooted true s ((facts_of h).none_yet (rooted_so s folder is)) h
changed-kept s (Listed ok) is rise h = opened_to-kept IsListed ok s ((facts_of h).none_yet (listed_so s ok is)) h
changed-kept s (Listens port ok) is rise h = opened_to-kept IsListening ok s ((facts_of h).none_yet (listens_so s port ok is)) h
changed-kept s (Configured file text) is rise h = configured-kept text s ((facts_of h).none_yet (configured_so s file text is)) h
changed-kept s (Printed text) is rise h = h
changed-kept s Stopped is rise h = event-kept (record s { is_stopped = true }) (stopped_kept s (awaiting_so s is) h)
  where
    stopped_kept : (s : State) → is_early s.phase ≡ false → Kept [] s → Kept [] (record s { is_stopped = true })
    stopped_kept s apart h = kept (record { few_clients = (facts_of h).few_clients; lines = (facts_of h).lines; given = (facts_of h).given; asked_well = (facts_of h).asked_well; lined = λ going. absurd (cc going); none_yet = λ at. let both : true ≡ false = sym at ∙ apart in absurd (cc both) })

pub after-kept : (s : State) (happening : Happening) → IsPermitted s happening → AreNumbered s → Kept [] s → Kept [] (after s happening)
after-kept s happening is rise h = changed-kept s happening is rise h

-- whatever was sent, and whatever is loaded
abbrev pub from_now : Since
from_now = record { old = []; counts_loads = false; excepts = None }

pub after_all-kept : (s : State) (log : Log) → LawfulFrom s log → Sound from_now s → Kept [] s → Kept [] (after_all s log)
after_all-kept s [] lawful numbered h = h
after_all-kept s (happening ∷ log) lawful numbered h =
    after_all-kept (after s happening) log lawful.1 (after-sound s happening refl (λ counts. absurd (cc counts)) lawful.0 numbered)
    (after-kept s happening lawful.0 (sound_facts numbered).asks.rise h)
