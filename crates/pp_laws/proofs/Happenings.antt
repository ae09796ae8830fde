-- Each permitted happening keeps what is sound, and so does a lawful log.
use Rattle.std.proofs.Common.{◌≡◌, ◌⊎◌, refl, ℕ, ◌<◌, Bool, true, false, not, ◌&&◌, [], ◌∷◌, ◌++◌, length, Option, Some, None, inl, inr, sym, subst, ap, ◌∙◌, le_of_lt, lt_of_le_of_lt}
use Rattle.pp_world.specs.Log.{Log}
use Rattle.pp_world.specs.declared.happening.Happening.TheVariants.{Woke, Waits, Clock, Opened, CanRead, CanWrite, Heard, HungUp, Said, Shut, Dialled, Undialled, Reached, Ended, Broke, Asked, Got, Dropped, NoneYet, Began, Did, Unread, Noted, Rooted, Listed, Listens, Configured, Printed, Stopped}
use Rattle.pp_world.specs.declared.happening.Happening.{Happening}
use Rattle.pp_world.specs.declared.note.Remark.TheVariants.{Taken, Cut, Kept, Gone, Forgotten, Evicted, Loaded}
use Rattle.pp_world.specs.declared.note.Decision.{Decision}
use Rattle.pp_world.specs.declared.note.Remark.{Remark}
use Rattle.pp_world.specs.declared.op.DiskOp.{DiskOp}
use Rattle.pp_law.specs.After.{new_client, new_conn, event, opened, owing, reached, paid, said, gone, take_decision, evicted, waits_for_row, brings_to, dropping_body, refused_row, leave_memory, forgotten_by, noted, begun_op, ended_op, unread, shut, dialled, refused_dial, undialled, out, dropped, changed, after}
use Rattle.pp_law.specs.Closing.{close_client}
use Rattle.pp_law.specs.Connections.{client, conn, is_client, is_conn, may_ask_again, put_on, placing, Placement, Pause, AllPlaced, WaitsDial, WaitsDrop}
use Rattle.pp_law.specs.Lawful.{LawfulFrom}
use Rattle.pp_law.specs.Leaving.{Leaving, ForAnother, ForMemory, BeforeDecision, leaving_as}
use Rattle.pp_law.specs.Lists.{Bytes, change}
use Rattle.pp_law.specs.Opening.{is_opening}
use Rattle.pp_law.specs.Permits.{is_permitted, IsPermitted, permits, permits_dial, is_new_number, may_open}
use Rattle.pp_law.specs.Phases.{is_awaiting, due_victim, come_to}
use Rattle.pp_law.specs.Replies.{said_by}
use Rattle.pp_law.specs.Served.{accepts}
use Rattle.pp_law.specs.State.{State, RowRefused, Client, Conn, Exchange, Instance, IsRooted, IsListed, IsListening, Handling, Evicting, Keeping, Connecting, Owed, ReadOf, WriteTo}
use Rattle.pp_law.specs.Table.{forget}
use Rattle.pp_laws.specs.Origin.{LoadWasSent, LoadsWhatWasSent}
use Rattle.pp_laws.specs.Runs.{after_all, IsIn}
use Rattle.pp_laws.proofs.Callers.{said_by-same, same_parts}
use Rattle.pp_laws.proofs.Cases.{by_pause, each_of, each_so, when}
use Rattle.pp_laws.proofs.Clients.{ask-sound, close_client-sound, decided-sound, end_replies-sound, fill-sound, hang_up-sound, hear-sound, regained-sound, use_said-sound}
use Rattle.pp_laws.proofs.Disk.{begin_in_opening-sound, begin_in_turn-sound, close_name-sound, configured-sound, end_op-sound, load-sound, lose_in_opening-sound, note_gone-sound, note_kept-sound, opened_to-sound, woken-sound}
use Rattle.pp_laws.proofs.Exchanges.{end_exchange-sound, lose_attempt-sound, on_client-sound, on_conn-sound}
use Rattle.pp_laws.proofs.KeptClients.{client_pushed, clients_changed, clients_filtered}
use Rattle.pp_laws.proofs.KeptConns.{conn_pushed, conns_filtered, top_raised}
use Rattle.pp_laws.proofs.KeptExchanges.{exchanges_unbound}
use Rattle.pp_laws.proofs.Lists.{in_find, in_push}
use Rattle.pp_laws.proofs.Pieces.{ended-sound, got-sound}
use Rattle.pp_laws.proofs.Places.{IsReady, placing-dial, placing-sound, put_on-sound}
use Rattle.pp_laws.proofs.Rows.{drop_chunk-sound, forget-sound}
use Rattle.pp_laws.proofs.Sound.{Since, Sound, facts_of, sound}
use Rattle.pp_laws.proofs.Steps.{come_to-sound, come_to_decide-sound, deciding-sound, ending-sound, in_phase-sound, rest_with-sound, tick-sound, touch-sound}
use Rattle.pp_laws.proofs.Tests.{below, first_holds, second_holds}
use Rattle.pp_laws.proofs.Tops.{come_to-top, placing-top}

-- ---- events

event-sound : {b : Since} (s : State) → Sound b s → Sound b (event s)
unfolding event
event-sound s h = regained-sound _ (in_phase-sound Handling s h)

opened-sound : {b : Since} (n : ℕ) (s : State) → s.top < n → Sound b s → Sound b (opened n s)
unfolding opened
opened-sound {b} n s above h = sound (client_pushed b (record s { top = n }) (new_client n s.clock) refl lower refl (top_raised b s n (le_of_lt above) (facts_of h)))
  where
    lower : (d : Client) → IsIn d s.clients → d.number < n
    lower d i = lt_of_le_of_lt ((facts_of h).callers.given d i) above

owing-sound : {b : Since} (owed : Owed) (n : ℕ) (s : State) → Sound b s → Sound b (owing owed n s)
unfolding owing
owing-sound owed n s h = sound (facts_of (touch-sound n s h))

reached-sound : {b : Since} (n : ℕ) (s : State) → Sound b s → Sound b (reached n s)
unfolding reached
reached-sound n s h = touch-sound n _ (on_conn-sound n (λ k. record k { is_reached = true }) s (λ k. record { number = refl; line = refl; answer = refl }) h)

-- ---- reads and writes

paid-sound : {b : Since} (s : State) → Sound b s → Sound b (paid s)
unfolding paid
paid-sound s h = regained-sound _ (sound (facts_of h))

said-sound : {b : Since} (c n : ℕ) (s : State) → Sound b s → Sound b (said c n s)
unfolding said
said-sound c n s h = each_of (client s c) h (λ x. end_replies-sound _ (on_client-sound c (said_by n) _ (said_by-same n) (use_said-sound n x s h)))

gone-sound : {b : Since} (is_clean : Bool) (n : ℕ) (s : State) → b.excepts ≡ None → Sound b s → Sound b (gone is_clean n s)
unfolding gone
gone-sound is_clean n s none h = each_so (conn s n) (λ isnt. h) (λ k found. end_replies-sound _ (ended-sound is_clean k s none (in_find (is_conn n) k s.conns found).0 h))

-- ---- notes

take_decision-sound : {b : Since} (n : ℕ) (d : Decision) (s : State) → Sound b s → Sound b (take_decision n d s)
unfolding take_decision
take_decision-sound n d s h = each_so (client s n) (λ none. h) (λ c found. regained-sound _ (sound (facts_of (decided-sound c d s (in_find (is_client n) c s.clients found).0 h))))

evicted-sound : {b : Since} (s : State) → Sound b s → Sound b (evicted s)
unfolding evicted
evicted-sound s h = each_of (due_victim s) h (λ place. drop_chunk-sound place.0 place.1 s h)

refused_row-sound : {b : Since} (x : Instance) (s : State) → Sound b s → Sound b (refused_row x s)
unfolding refused_row
refused_row-sound {b} x s h =
    sound (clients_changed b (record (forget x.id s) { exchanges = change (brings_to x.id) dropping_body (forget x.id s).exchanges }) (waits_for_row x.id) (λ c. record c { course = RowRefused }) (λ c. same_parts _ c refl refl refl)
    (exchanges_unbound b (forget x.id s) (brings_to x.id) dropping_body (λ e. record { number = refl; key = refl; aim = refl; place = refl; none = refl }) (facts_of (forget-sound x.id s h))))

leave_memory-sound : {b : Since} (how : Leaving) (s : State) → Sound b s → Sound b (leave_memory how s)
unfolding leave_memory
leave_memory-sound ForAnother s h = sound (facts_of (come_to-sound Evicting s h))
leave_memory-sound (ForMemory x) s h = refused_row-sound x _ (come_to-sound Evicting s h)
leave_memory-sound (BeforeDecision x) s h = sound (facts_of (forget-sound x.id _ (come_to_decide-sound s h)))

forgotten_by-sound : {b : Since} (key : Bytes) (s : State) → Sound b s → Sound b (forgotten_by key s)
unfolding forgotten_by
forgotten_by-sound key s h = each_of (leaving_as s key) h (λ how. leave_memory-sound how s h)

noted-sound : {b : Since} (remark : Remark) (s : State) → (b.counts_loads ≡ true → LoadWasSent s (Noted remark)) → Sound b s → Sound b (noted remark s)
unfolding noted
noted-sound (Taken c i d) s loads h = take_decision-sound c d _ (deciding-sound s h)
noted-sound (Cut c cause) s loads h = close_client-sound c true _ (deciding-sound s h)
noted-sound (Kept key tag n extent) s loads h = note_kept-sound key extent s h
noted-sound (Gone key) s loads h = note_gone-sound key _ (come_to-sound Keeping s h)
noted-sound (Forgotten key) s loads h = forgotten_by-sound key s h
noted-sound (Evicted key tag n i) s loads h = evicted-sound _ (come_to-sound Evicting s h)
noted-sound (Loaded key tag n i) s loads h = load-sound key i s loads h

-- ---- the disk

begun_op-sound : {b : Since} (op : DiskOp) (s : State) → Sound b s → Sound b (begun_op op s)
unfolding begun_op
begun_op-sound op s h = when (is_opening s) (begin_in_opening-sound op s h) (begin_in_turn-sound op _ (come_to-sound Keeping s h))

ended_op-sound : {b : Since} (op : DiskOp) (ok : Bool) (s : State) → Sound b s → Sound b (ended_op op ok s)
unfolding ended_op
ended_op-sound op true s h = end_op-sound op true s h
ended_op-sound op false s h = lose_in_opening-sound s.agenda.name _ (end_op-sound op false s h)

unread-sound : {b : Since} (name : Bytes) (s : State) → Sound b s → Sound b (unread name s)
unfolding unread
unread-sound name s h = paid-sound _ (lose_in_opening-sound name _ (close_name-sound name s h))

-- ---- closings and places

shut-sound : {b : Since} (n : ℕ) (s : State) → Sound b s → Sound b (shut n s)
unfolding shut
shut-sound {b} n s h = sound (clients_filtered b (close_client n false s) (λ c. not (is_client n c)) (facts_of (close_client-sound n false s h)))

new_conn-ready : (n : ℕ) (k : Conn) (top : ℕ) (s : State) → k.line ≡ [] → IsReady n s → IsReady n (record s { conns = s.conns ++ k ∷ []; top = top })
new_conn-ready n k top s nothing ready = record { no_line = λ j i l. by j (in_push j s.conns k i) l; given = ready.given; unbound = ready.unbound }
  where
    by : (j : Conn) → IsIn j s.conns ⊎ (j ≡ k) → IsIn n j.line → ⊥
    by j (inl i) l = ready.no_line j i l
    by j (inr eq) l = subst (λ ns. IsIn n ns) (ap (λ (x : Conn). x.line) eq ∙ nothing) l

dialled_at : {b : Since} (n : ℕ) (host : Bytes) (port : ℕ) (s : State) (pause : Pause) → s.top < n → ((e : Exchange) → pause ≡ WaitsDial e → IsReady e.number s) → Sound b s
    → Sound b (elim pause as (λ c. State) [
      | AllPlaced ↦ s
      | WaitsDrop k e ↦ s
      | WaitsDial e ↦ put_on e.number n (record s { conns = s.conns ++ new_conn n host port s.clock ∷ []; top = n })
    ])
dialled_at n host port s AllPlaced above ready h = h
dialled_at n host port s (WaitsDrop k e) above ready h = h
dialled_at {b} n host port s (WaitsDial e) above ready h =
    put_on-sound e.number n _ (new_conn-ready e.number (new_conn n host port s.clock) n s refl (ready e refl)) (sound (conn_pushed b s (new_conn n host port s.clock) above refl (facts_of h)))

dialled-sound : {b : Since} (n : ℕ) (host : Bytes) (port : ℕ) (s : State) → (placing s).state.top < n → Sound b s → Sound b (dialled n host port (placing s))
unfolding dialled
dialled-sound n host port s above h = dialled_at n host port (placing s).state (placing s).pause above (λ e is. placing-dial s h e is) (placing-sound s h)

refused_dial-sound : {b : Since} (e : Exchange) (s : State) → Sound b s → Sound b (refused_dial e s)
unfolding refused_dial
refused_dial-sound e s h = when (may_ask_again s e.number) h (fill-sound _ (end_exchange-sound e.number s h))

undialled-sound : {b : Since} (p : Placement) → Sound b p.state → Sound b (undialled p)
unfolding undialled
undialled-sound p h = by_pause p.pause h (λ k e. h) (λ e. refused_dial-sound e _ (lose_attempt-sound e _ (sound (facts_of h))))

out-sound : {b : Since} (n : ℕ) (s : State) → Sound b s → Sound b (out n s)
unfolding out
out-sound {b} n s h = sound (conns_filtered b s (λ k. not (is_conn n k)) (facts_of h))

dropped-sound : {b : Since} (n : ℕ) (s : State) → Sound b s → Sound b (dropped n s)
unfolding dropped
dropped-sound n s h = each_of (conn s n) h (λ k. when k.is_closing (out-sound n s h) (out-sound n _ (placing-sound s h)))

-- ---- what is permitted

opened_by : (s : State) (n : ℕ) (room : Option ℕ) → (elim room as (λ c. Bool) [ Some who ↦ false | None ↦ is_awaiting s && may_open s n ]) ≡ true → s.top < n
opened_by s n (Some who) is = absurd (cc is)
opened_by s n None is = below s.top n (first_holds (is_new_number s n) (accepts s) (second_holds (is_awaiting s) (may_open s n) is))

opened_above : (s : State) (n : ℕ) → IsPermitted s (Opened n) → s.top < n
unfolding is_permitted permits
opened_above s n is = opened_by s n s.has_made_room is

dialled_by : (s : State) (n : ℕ) (host : Bytes) (port : ℕ) (room : Option ℕ) → (elim room as (λ c. Bool) [ Some who ↦ false | None ↦ is_new_number s n && permits_dial s host port ]) ≡ true → s.top < n
dialled_by s n host port (Some who) is = absurd (cc is)
dialled_by s n host port None is = below s.top n (first_holds (is_new_number s n) (permits_dial s host port) is)

dialled_above : (s : State) (n : ℕ) (host : Bytes) (port : ℕ) → IsPermitted s (Dialled n host port) → s.top < n
unfolding is_permitted permits
dialled_above s n host port is = dialled_by s n host port s.has_made_room is

-- ---- all

changed-sound : {b : Since} (s : State) (happening : Happening) → b.excepts ≡ None → (b.counts_loads ≡ true → LoadWasSent s happening) → IsPermitted s happening → Sound b s → Sound b (changed s happening)
unfolding changed
changed-sound s (Woke image) none loads is h = woken-sound image s h
changed-sound s (Waits w) none loads is h = rest_with-sound w _ (ending-sound s h)
changed-sound s (Clock seconds) none loads is h = event-sound _ (tick-sound seconds s h)
changed-sound s (Opened n) none loads is h = event-sound _ (opened-sound n s (opened_above s n is) h)
changed-sound s (CanRead n) none loads is h = event-sound _ (owing-sound (ReadOf n) n s h)
changed-sound s (CanWrite n) none loads is h = event-sound _ (owing-sound (WriteTo n) n s h)
changed-sound s (Heard c bytes) none loads is h = paid-sound _ (hear-sound c bytes s h)
changed-sound s (HungUp c) none loads is h = paid-sound _ (hang_up-sound c s h)
changed-sound s (Said c offered bytes) none loads is h = paid-sound _ (said-sound c (length bytes) s h)
changed-sound s (Shut c) none loads is h = shut-sound c _ (come_to-sound Connecting s h)
changed-sound s (Dialled n host port) none loads is h =
    dialled-sound n host port (come_to Connecting s) (subst (λ m. m < n) (sym (placing-top (come_to Connecting s) ∙ come_to-top Connecting s)) (dialled_above s n host port is)) (come_to-sound Connecting s h)
changed-sound s (Undialled host port) none loads is h = undialled-sound (placing (come_to Connecting s)) (placing-sound _ (come_to-sound Connecting s h))
changed-sound s (Reached k) none loads is h = event-sound _ (reached-sound k s h)
changed-sound s (Ended k) none loads is h = paid-sound _ (gone-sound true k s none h)
changed-sound s (Broke k) none loads is h = paid-sound _ (gone-sound false k _ none (event-sound s h))
changed-sound s (Asked k bytes) none loads is h = paid-sound _ (ask-sound k (length bytes) s h)
changed-sound s (Got k bytes) none loads is h = paid-sound _ (end_replies-sound _ (got-sound (length bytes) k bytes s none h))
changed-sound s (Dropped k) none loads is h = dropped-sound k _ (come_to-sound Connecting s h)
changed-sound s (NoneYet n) none loads is h = paid-sound s h
changed-sound s (Began op) none loads is h = begun_op-sound op s h
changed-sound s (Did op ok) none loads is h = ended_op-sound op ok s h
changed-sound s (Unread name) none loads is h = unread-sound name s h
changed-sound s (Noted remark) none loads is h = noted-sound remark s loads h
changed-sound s (Rooted folder) none loads is h = opened_to-sound IsRooted true s h
changed-sound s (Listed ok) none loads is h = opened_to-sound IsListed ok s h
changed-sound s (Listens port ok) none loads is h = opened_to-sound IsListening ok s h
changed-sound s (Configured file text) none loads is h = configured-sound text s h
changed-sound s (Printed text) none loads is h = h
changed-sound s Stopped none loads is h = event-sound (record s { is_stopped = true }) (sound (facts_of h))

pub after-sound : {b : Since} (s : State) (happening : Happening) → b.excepts ≡ None → (b.counts_loads ≡ true → LoadWasSent s happening) → IsPermitted s happening → Sound b s → Sound b (after s happening)
after-sound s happening none loads is h = changed-sound s happening none loads is h

pub after_all-sound : {b : Since} (s : State) (log : Log) → b.excepts ≡ None → (b.counts_loads ≡ true → LoadsWhatWasSent s log) → LawfulFrom s log → Sound b s → Sound b (after_all s log)
after_all-sound s [] none loads lawful h = h
after_all-sound s (happening ∷ log) none loads lawful h =
    after_all-sound (after s happening) log none (λ counts. (loads counts).1) lawful.1 (after-sound s happening none (λ counts. (loads counts).0) lawful.0 h)
