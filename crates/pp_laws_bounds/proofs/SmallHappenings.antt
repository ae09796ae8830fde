-- Each permitted happening keeps rows few, and exchanges whose bodies belong to one; and so does a lawful log.
use Rattle.std.proofs.Common.{◌≡◌, refl, ℕ, ◌<◌, Bool, true, false, not, ◌&&◌, ◌||◌, [], ◌∷◌, length, is_some, Option, Some, None, sym, ap, ◌∙◌, arith}
use Rattle.pp_world.specs.Log.{Log}
use Rattle.pp_world.specs.declared.event.Wants.{Wants}
use Rattle.pp_world.specs.declared.happening.Happening.TheVariants.{Woke, Waits, Clock, Opened, CanRead, CanWrite, Heard, HungUp, Said, Shut, Dialled, Undialled, Reached, Ended, Broke, Asked, Got, Dropped, NoneYet, Began, Did, Unread, Noted, Rooted, Listed, Listens, Configured, Printed, Stopped}
use Rattle.pp_world.specs.declared.happening.Happening.{Happening}
use Rattle.pp_world.specs.declared.note.Remark.TheVariants.{Taken, Cut, Kept as WasKept, Gone, Forgotten, Evicted, Loaded}
use Rattle.pp_world.specs.declared.note.Decision.{Decision}
use Rattle.pp_world.specs.declared.note.Remark.{Remark}
use Rattle.pp_world.specs.declared.op.DiskOp.{DiskOp}
use Rattle.pp_law.specs.After.{new_client, event, opened, owing, reached, paid, said, gone, take_decision, evicted, waits_for_row, brings_to, dropping_body, refused_row, leave_memory, forgotten_by, noted, begun_op, ended_op, unread, shut, dialled, refused_dial, undialled, out, dropped, changed, after}
use Rattle.pp_law.specs.Asking.{is_read, is_reading, permits_got, read_room}
use Rattle.pp_law.specs.Closing.{close_client}
use Rattle.pp_law.specs.Connections.{client, conn, is_client, may_ask_again, placing, Placement}
use Rattle.pp_law.specs.Lawful.{LawfulFrom}
use Rattle.pp_law.specs.Leaving.{Leaving, ForAnother, ForMemory, BeforeDecision, leaving_as}
use Rattle.pp_law.specs.Lists.{Bytes, change, is_this}
use Rattle.pp_law.specs.Opening.{is_at, is_opening, is_same_phase}
use Rattle.pp_law.specs.Permits.{is_permitted, IsPermitted, permits, may_wait}
use Rattle.pp_law.specs.Phases.{is_awaiting, due_victim, come_to, ending, may_end}
use Rattle.pp_law.specs.Replies.{said_by, end_replies}
use Rattle.pp_law.specs.Responses.{got}
use Rattle.pp_law.specs.Served.{is_served}
use Rattle.pp_law.specs.Stages.{bound_of}
use Rattle.pp_law.specs.State.{State, RowRefused, Phase, Exchange, Instance, IsRooted, IsListed, IsListening, Handling, Evicting, Keeping, Connecting, Owed, Free, ReadOf, WriteTo}
use Rattle.pp_law.specs.Table.{forget}
use Rattle.pp_law.specs.Turn.{touch}
use Rattle.pp_laws.specs.Runs.{after_all}
use Rattle.pp_laws.proofs.Happenings.{after-sound}
use Rattle.pp_laws.proofs.Sound.{Sound, facts_of as sound_facts}
use Rattle.pp_laws.proofs.Tests.{first_holds}
use Rattle.pp_laws_bounds.proofs.Happenings.{after-kept, from_now, opened_so}
use Rattle.pp_laws_bounds.proofs.Kept.{Kept, is_early, facts_of as kept_facts}
use Rattle.pp_laws_bounds.proofs.Small.{As, FactsOf, Small, facts_of, small}
use Rattle.pp_laws_bounds.proofs.SmallCases.{by_pause, each_of, when}
use Rattle.pp_laws_bounds.proofs.SmallChanges.{NotBound, client_pushed, clients_changed, clients_filtered, exchanges_changed}
use Rattle.pp_laws_bounds.proofs.SmallClients.{ask-small, close_client-small, decided-small, end_replies-small, fill-small, hang_up-small, hear-small, regained-small, use_said-small}
use Rattle.pp_laws_bounds.proofs.SmallDisk.{begin_in_opening-small, begin_in_turn-small, close_name-small, configured-small, end_op-small, load-small, lose_in_opening-small, note_gone-small, note_kept-small, opened_to-small, woken-small}
use Rattle.pp_laws_bounds.proofs.SmallExchanges.{end_exchange-small, lose_attempt-small, on_client-small, on_conn-small}
use Rattle.pp_laws_bounds.proofs.SmallPieces.{ended-small, got-small, plain}
use Rattle.pp_laws_bounds.proofs.SmallRows.{drop_chunk-small, forget-small}
use Rattle.pp_laws_bounds.proofs.SmallSteps.{come_to-small, come_to_decide-small, deciding-small, ending-small, in_phase-small, placing-small, put_on-small, rest_with-small, tick-small, touch-small}

-- ---- events

event-small : {a : As} (s : State) → Small a s → Small a (event s)
unfolding event
event-small s h = regained-small _ (in_phase-small Handling s refl h)

opened-small : {a : As} (n : ℕ) (s : State) → length s.clients < 256 → Small a s → Small a (opened n s)
unfolding opened
opened-small {a} n s room h = small (client_pushed a s (new_client n s.clock) n room (facts_of h))

-- what is owed to an event, where nobody said Stop
owed_facts : {b : Bool} (owed : Owed) (t : State) → b ≡ false → FactsOf (plain b) t → FactsOf (plain b) (record t { owed = owed; phase = Handling })
owed_facts owed t going h = record {
  said = h.said;
  rests = λ is. let both : true ≡ false = sym is ∙ going in absurd (cc both);
  awaits = λ is. absurd (cc is);
  few_clients = h.few_clients;
  few_bound = h.few_bound;
  expected = h.expected;
  few_rows = h.few_rows;
  differ = h.differ;
  given = h.given;
}

owing-small : {b : Bool} (owed : Owed) (n : ℕ) (s : State) → b ≡ false → Small (plain b) s → Small (plain b) (event (owing owed n s))
unfolding event owing
owing-small owed n s going h = regained-small _ (small (owed_facts owed (touch n s) going (facts_of (touch-small n s h))))

reached-small : {a : As} (n : ℕ) (s : State) → Small a s → Small a (reached n s)
unfolding reached
reached-small n s h = touch-small n _ (on_conn-small n (λ k. record k { is_reached = true }) s (λ k. record { number = refl; host = refl; port = refl; line = refl; closing = refl }) h)

-- ---- reads and writes

paid_facts : {a : As} (s : State) → FactsOf a s → FactsOf a (record s { owed = Free })
paid_facts s h = record {
  said = h.said;
  rests = λ is. refl;
  awaits = λ at. (refl, (h.awaits at).1);
  few_clients = h.few_clients;
  few_bound = h.few_bound;
  expected = h.expected;
  few_rows = h.few_rows;
  differ = h.differ;
  given = h.given;
}

paid-small : {a : As} (s : State) → Small a s → Small a (paid s)
unfolding paid
paid-small s h = regained-small _ (small (paid_facts s (facts_of h)))

said-small : {a : As} (c n : ℕ) (s : State) → Small a s → Small a (said c n s)
unfolding said
said-small c n s h = each_of (client s c) h (λ x. end_replies-small _ (on_client-small c (said_by n) _ (use_said-small n x s h)))

gone-small : {b : Bool} (is_clean : Bool) (n : ℕ) (s : State) → Small (plain b) s → Small (plain b) (gone is_clean n s)
unfolding gone
gone-small is_clean n s h = each_of (conn s n) h (λ k. end_replies-small _ (ended-small is_clean k s h))

-- ---- notes

take_decision-small : {a : As} (n : ℕ) (d : Decision) (s : State) → Small a s → Small a (take_decision n d s)
unfolding take_decision
take_decision-small n d s h = each_of (client s n) h (λ c. regained-small _ (small (facts_of (decided-small c d s h))))

evicted-small : {a : As} (s : State) → Small a s → Small a (evicted s)
unfolding evicted
evicted-small s h = each_of (due_victim s) h (λ place. drop_chunk-small place.0 place.1 s h)

or_right : (a b : Bool) → b ≡ true → (a || b) ≡ true
or_right true b is = refl
or_right false b is = is

dropped_not_bound : NotBound dropping_body
dropped_not_bound expects e is = or_right (is_some (bound_of e)) (is_this e.number expects) is

refused_row-small : {a : As} (x : Instance) (s : State) → Small a s → Small a (refused_row x s)
unfolding refused_row
refused_row-small {a} x s h =
    small (clients_changed a (record (forget x.id s) { exchanges = change (brings_to x.id) dropping_body (forget x.id s).exchanges }) (waits_for_row x.id) (λ c. record c { course = RowRefused })
    (exchanges_changed a (forget x.id s) (brings_to x.id) dropping_body dropped_not_bound (facts_of (forget-small x.id s h))))

leave_memory-small : {a : As} (how : Leaving) (s : State) → Small a s → Small a (leave_memory how s)
unfolding leave_memory
leave_memory-small ForAnother s h = small (facts_of (come_to-small Evicting s h))
leave_memory-small (ForMemory x) s h = refused_row-small x _ (come_to-small Evicting s h)
leave_memory-small (BeforeDecision x) s h = small (facts_of (forget-small x.id _ (come_to_decide-small s h)))

forgotten_by-small : {a : As} (key : Bytes) (s : State) → Small a s → Small a (forgotten_by key s)
unfolding forgotten_by
forgotten_by-small key s h = each_of (leaving_as s key) h (λ how. leave_memory-small how s h)

noted-small : {a : As} (remark : Remark) (s : State) → Small a s → Small a (noted remark s)
unfolding noted
noted-small (Taken c i d) s h = take_decision-small c d _ (deciding-small s h)
noted-small (Cut c cause) s h = close_client-small c true _ (deciding-small s h)
noted-small (WasKept key tag n extent) s h = note_kept-small key extent s h
noted-small (Gone key) s h = note_gone-small key _ (come_to-small Keeping s h)
noted-small (Forgotten key) s h = forgotten_by-small key s h
noted-small (Evicted key tag n i) s h = evicted-small _ (come_to-small Evicting s h)
noted-small (Loaded key tag n i) s h = load-small key i s h

-- ---- the disk

begun_op-small : {a : As} (op : DiskOp) (s : State) → Small a s → Small a (begun_op op s)
unfolding begun_op
begun_op-small op s h = when (is_opening s) (begin_in_opening-small op s h) (begin_in_turn-small op _ (come_to-small Keeping s h))

ended_op-small : {a : As} (op : DiskOp) (ok : Bool) (s : State) → Small a s → Small a (ended_op op ok s)
unfolding ended_op
ended_op-small op true s h = end_op-small op true s h
ended_op-small op false s h = lose_in_opening-small s.agenda.name _ (end_op-small op false s h)

unread-small : {a : As} (name : Bytes) (s : State) → Small a s → Small a (unread name s)
unfolding unread
unread-small name s h = paid-small _ (lose_in_opening-small name _ (close_name-small name s h))

-- ---- closings and places

shut-small : {a : As} (n : ℕ) (s : State) → Small a s → Small a (shut n s)
unfolding shut
shut-small {a} n s h = small (clients_filtered a (close_client n false s) (λ c. not (is_client n c)) (facts_of (close_client-small n false s h)))

dialled-small : {a : As} (n : ℕ) (host : Bytes) (port : ℕ) (p : Placement) → Small a p.state → Small a (dialled n host port p)
unfolding dialled
dialled-small n host port p h = by_pause p.pause h (λ k e. h) (λ e. put_on-small e.number n _ (small (facts_of h)))

refused_dial-small : {a : As} (e : Exchange) (s : State) → Small a s → Small a (refused_dial e s)
unfolding refused_dial
refused_dial-small e s h = when (may_ask_again s e.number) h (fill-small _ (end_exchange-small e.number s h))

undialled-small : {a : As} (p : Placement) → Small a p.state → Small a (undialled p)
unfolding undialled
undialled-small p h = by_pause p.pause h (λ k e. h) (λ e. refused_dial-small e _ (lose_attempt-small e _ (small (facts_of h))))

out-small : {a : As} (n : ℕ) (s : State) → Small a s → Small a (out n s)
unfolding out
out-small n s h = small (facts_of h)

dropped-small : {a : As} (n : ℕ) (s : State) → Small a s → Small a (dropped n s)
unfolding dropped
dropped-small n s h = each_of (conn s n) h (λ k. when k.is_closing (out-small n s h) (out-small n _ (placing-small s h)))

-- ---- what is permitted

unhampered : (made : Option ℕ) (t : Bool) → (elim made as (λ c. Bool) [ Some who ↦ false | None ↦ t ]) ≡ true → t ≡ true
unhampered (Some who) t is = absurd (cc is)
unhampered None t is = is

can_read_so : (s : State) (n : ℕ) → IsPermitted s (CanRead n) → is_awaiting s ≡ true
unfolding is_permitted permits
can_read_so s n is = unhampered s.has_made_room (is_awaiting s) is

can_write_so : (s : State) (n : ℕ) → IsPermitted s (CanWrite n) → is_awaiting s ≡ true
unfolding is_permitted permits
can_write_so s n is = unhampered s.has_made_room (is_awaiting s) is

stopped_so : (s : State) → IsPermitted s Stopped → is_awaiting s ≡ true
unfolding is_permitted permits
stopped_so s is = unhampered s.has_made_room (is_awaiting s) is

got_so : (s : State) (n : ℕ) (bytes : Bytes) → IsPermitted s (Got n bytes) → is_reading s.owed n ≡ true
unfolding is_permitted permits
got_so s n bytes is = first_holds (is_reading s.owed n) (is_read (read_room s n) bytes) (unhampered s.has_made_room (permits_got s n bytes) is)

waits_so : (s : State) (w : Wants) → IsPermitted s (Waits w) → may_wait s ≡ true
unfolding is_permitted permits
waits_so s w is = of (may_wait s) (unhampered s.has_made_room _ is)
  where
    of : (t : Bool) → (elim t as (λ c. Bool) [ true ↦ is_served (ending s) w | false ↦ false ]) ≡ true → t ≡ true
    of true holds = refl
    of false holds = absurd (cc holds)

-- who reads is behind no Stop
reads_on : {b : Bool} (s : State) (n : ℕ) → FactsOf (plain b) s → is_reading s.owed n ≡ true → b ≡ false
reads_on {b = true} s n h is = let both : false ≡ true = sym (ap (λ o. is_reading o n) (h.rests refl)) ∙ is in absurd (cc both)
reads_on {b = false} s n h is = refl

at_listening : (phase : Phase) → is_same_phase IsListening phase ≡ true → is_early phase ≡ true
at_listening IsListening is = refl
at_listening phase is = grind arith

not_true : (t : Bool) → not t ≡ true → t ≡ false
not_true true is = absurd (cc is)
not_true false is = refl

waits_on : {b : Bool} (s : State) → FactsOf (plain b) s → Kept [] s → may_wait s ≡ true → b ≡ false
waits_on {b} s h k is = sym h.said ∙ by (is_at IsListening s) refl is
  where
    by : (t : Bool) → is_at IsListening s ≡ t → (t || (not s.is_stopped && may_end s)) ≡ true → s.is_stopped ≡ false
    by true at holds = ((kept_facts k).none_yet (at_listening s.phase at)).1
    by false isnt holds = not_true s.is_stopped (first_holds (not s.is_stopped) (may_end s) holds)

stopped-small : {b : Bool} (s : State) → is_awaiting s ≡ true → Small (plain b) s → Small (plain true) (event (record s { is_stopped = true }))
unfolding event
stopped-small s at h = regained-small _ (small (record {
  said = refl;
  rests = λ is. ((facts_of h).awaits at).0;
  awaits = λ is. absurd (cc is);
  few_clients = (facts_of h).few_clients;
  few_bound = (facts_of h).few_bound;
  expected = (facts_of h).expected;
  few_rows = (facts_of h).few_rows;
  differ = (facts_of h).differ;
  given = (facts_of h).given;
}))

read-small : {b : Bool} (k : ℕ) (bytes : Bytes) (s : State) → b ≡ false → Sound from_now s → Kept [] s → Small (plain b) s → Small (plain b) (paid (end_replies (got (length bytes) k bytes s)))
read-small {b = true} k bytes s going sound kept_so h = absurd (cc going)
read-small {b = false} k bytes s going sound kept_so h = paid-small _ (end_replies-small _ (got-small (length bytes) k bytes s sound kept_so h))

-- ---- all

-- whether or not Stop was said
abbrev pub IsSmall : State → Type 0
IsSmall s = (b : Bool) × Small (plain b) s

changed-small : (s : State) (happening : Happening) → IsPermitted s happening → Sound from_now s → Kept [] s → (b : Bool) → Small (plain b) s → IsSmall (changed s happening)
unfolding changed
changed-small s (Woke image) is sound k b h = (false, woken-small image s)
changed-small s (Waits w) is sound k b h = (b, rest_with-small w _ (waits_on s (facts_of h) k (waits_so s w is)) (ending-small s h))
changed-small s (Clock seconds) is sound k b h = (b, event-small _ (tick-small seconds s h))
changed-small s (Opened n) is sound k b h = (b, event-small _ (opened-small n s (opened_so s n is).1 h))
changed-small s (CanRead n) is sound k b h = (b, owing-small (ReadOf n) n s ((facts_of h).awaits (can_read_so s n is)).1 h)
changed-small s (CanWrite n) is sound k b h = (b, owing-small (WriteTo n) n s ((facts_of h).awaits (can_write_so s n is)).1 h)
changed-small s (Heard c bytes) is sound k b h = (b, paid-small _ (hear-small c bytes s h))
changed-small s (HungUp c) is sound k b h = (b, paid-small _ (hang_up-small c s h))
changed-small s (Said c offered bytes) is sound k b h = (b, paid-small _ (said-small c (length bytes) s h))
changed-small s (Shut c) is sound k b h = (b, shut-small c _ (come_to-small Connecting s h))
changed-small s (Dialled n host port) is sound k b h = (b, dialled-small n host port (placing (come_to Connecting s)) (placing-small _ (come_to-small Connecting s h)))
changed-small s (Undialled host port) is sound k b h = (b, undialled-small (placing (come_to Connecting s)) (placing-small _ (come_to-small Connecting s h)))
changed-small s (Reached n) is sound k b h = (b, event-small _ (reached-small n s h))
changed-small s (Ended n) is sound k b h = (b, paid-small _ (gone-small true n s h))
changed-small s (Broke n) is sound k b h = (b, paid-small _ (gone-small false n _ (event-small s h)))
changed-small s (Asked n bytes) is sound k b h = (b, paid-small _ (ask-small n (length bytes) s h))
changed-small s (Got n bytes) is sound k b h = (b, read-small n bytes s (reads_on s n (facts_of h) (got_so s n bytes is)) sound k h)
changed-small s (Dropped n) is sound k b h = (b, dropped-small n _ (come_to-small Connecting s h))
changed-small s (NoneYet n) is sound k b h = (b, paid-small s h)
changed-small s (Began op) is sound k b h = (b, begun_op-small op s h)
changed-small s (Did op ok) is sound k b h = (b, ended_op-small op ok s h)
changed-small s (Unread name) is sound k b h = (b, unread-small name s h)
changed-small s (Noted remark) is sound k b h = (b, noted-small remark s h)
changed-small s (Rooted folder) is sound k b h = (b, opened_to-small IsRooted true s refl h)
changed-small s (Listed ok) is sound k b h = (b, opened_to-small IsListed ok s refl h)
changed-small s (Listens port ok) is sound k b h = (b, opened_to-small IsListening ok s refl h)
changed-small s (Configured file text) is sound k b h = (b, configured-small text s h)
changed-small s (Printed text) is sound k b h = (b, h)
changed-small s Stopped is sound k b h = (true, stopped-small s (stopped_so s is) h)

after-small : (s : State) (happening : Happening) → IsPermitted s happening → Sound from_now s → Kept [] s → IsSmall s → IsSmall (after s happening)
after-small s happening is sound k h = changed-small s happening is sound k h.0 h.1

pub after_all-small : (s : State) (log : Log) → LawfulFrom s log → Sound from_now s → Kept [] s → IsSmall s → IsSmall (after_all s log)
after_all-small s [] lawful sound k h = h
after_all-small s (happening ∷ log) lawful sound k h =
    after_all-small (after s happening) log lawful.1 (after-sound s happening refl (λ counts. absurd (cc counts)) lawful.0 sound)
    (after-kept s happening lawful.0 (sound_facts sound).asks.rise k) (after-small s happening lawful.0 sound k h)
