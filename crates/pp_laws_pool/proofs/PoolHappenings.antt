-- Each permitted happening keeps the chunks few, and so does a lawful log.
use Rattle.std.proofs.Common.{◌≡◌, ◌⊎◌, refl, ℕ, ◌+◌, ◌-◌, ◌/◌, ◌≤◌, nat_le, nat_lt, Bool, true, false, not, ◌==◌, ◌&&◌, ◌||◌, bytes_eq, min, List, [], ◌∷◌, ◌++◌, map, filter, find, cond, length, is_some, option_map, Option, Some, None, inl, inr, sym, subst, ap, ◌∙◌, zero-le, le_refl, le_trans, arith}
use Rattle.std.specs.List.{list_any}
use Rattle.std.proofs.Math.Nat.{min-le_left}
use Rattle.std.proofs.lemmas.Bool.Decides.{nat_tests}
use Rattle.pp_conf.specs.Conf.{Settings, defaults}
use Rattle.pp_conf.specs.Words.{file_of, reading_of}
use Rattle.pp_head.specs.Read.{More}
use Rattle.pp_head.specs.Response.{response_at}
use Rattle.pp_text.specs.Bytes.{is_empty}
use Rattle.pp_world.specs.Files.{Files}
use Rattle.pp_world.specs.declared.event.Wants.{Wants}
use Rattle.pp_world.specs.declared.happening.Happening.TheVariants.{Woke, Waits, Clock, Opened, CanRead, CanWrite, Heard, HungUp, Said, Shut, Dialled, Undialled, Reached, Ended, Broke, Asked, Got, Dropped, NoneYet, Began, Did, Unread, Noted, Rooted, Listed, Listens, Configured, Printed, Stopped}
use Rattle.pp_world.specs.declared.happening.Happening.{Happening}
use Rattle.pp_world.specs.declared.note.Cause.{Cause}
use Rattle.pp_world.specs.declared.note.Decision.{Decision}
use Rattle.pp_world.specs.declared.note.Remark.TheVariants.{Taken, Cut, Kept, Gone, Forgotten, Evicted, Loaded as WasLoaded}
use Rattle.pp_world.specs.declared.note.Remark.{Remark}
use Rattle.pp_world.specs.declared.op.DiskOp.{DiskOp}
use Rattle.pp_law.specs.After.{new_client, new_conn, event, opened, owing, reached, paid, said, gone, take_decision, evicted, waits_for_row, refused_row, leave_memory, forgotten_by, noted, begun_op, ended_op, unread, shut, dialled, refused_dial, undialled, out, dropped, changed, after}
use Rattle.pp_law.specs.Asking.{is_read, is_reading, is_writing, permits_got, read_limit, read_room}
use Rattle.pp_law.specs.Deciding.{is_for_memory}
use Rattle.pp_law.specs.Closing.{close_client}
use Rattle.pp_law.specs.Connections.{client, conn, is_client, is_conn, lose_attempt, end_exchange, may_ask_again, placing, put_on, Placement, Pause, AllPlaced, WaitsDial, WaitsDrop}
use Rattle.pp_law.specs.Leaving.{Leaving, ForAnother, ForMemory, BeforeDecision, if_so, is_first, leaving_as, makes_room}
use Rattle.pp_law.specs.Lists.{Bytes, is_some_with}
use Rattle.pp_law.specs.Opening.{are_texts, begun, configured, is_at, is_opening, is_same_phase, is_recovered, lose_in_opening, may_fail, names_file, opened_to, permits_configured, permits_listens, permits_woke, settings_in, stuck, term_in, terms_behind, with_settings, woken}
use Rattle.pp_law.specs.Entries.{entries_in}
use Rattle.pp_law.specs.Repairs.{begin_in_opening, may_begin_in_opening}
use Rattle.pp_law.specs.Permits.{has_conn, is_new_number, is_permitted, IsPermitted, may_cut, may_dial, may_drop, may_evict, may_open, may_shut, may_take, may_wait, permits, permits_dial, permits_noted, permits_taken}
use Rattle.pp_law.specs.Followers.{fill}
use Rattle.pp_law.specs.Phases.{phases, in_phase, is_awaiting, is_done, is_done_with, is_free, next, passed, come, come_to, come_to_decide, decides, deciding, due_victim, ending, may_decide, may_end, may_in}
use Rattle.pp_law.specs.Replies.{begin_replies, said_by, end_replies}
use Rattle.pp_law.specs.Responses.{got}
use Rattle.pp_law.specs.Served.{is_served}
use Rattle.pp_law.specs.State.{State, RowRefused, Answer, Chunk, Client, Conn, Entry, Exchange, Instance, Phase, Before, IsWoken, IsConfigured, IsRooted, IsListed, IsListening, IsStuck, Awaiting, Handling, Evicting, Keeping, Deciding, Following, Connecting, DecidingAgain, Owed, Free, ReadOf, WriteTo, Todo, start}
use Rattle.pp_law.specs.Store.{begin_in_turn, close_name, is_acknowledged_as, is_idle_disk, is_same_op, may_begin_in_turn, may_end_op, may_note_gone}
use Rattle.pp_law.specs.Table.{row}
use Rattle.pp_law.specs.Turn.{rest_with, rested_client, rested_conn, tick, touch}
use Rattle.pp_law.specs.Unseen.{rested_exchange}
use Rattle.pp_laws.specs.Runs.{IsIn}
use Rattle.pp_laws.proofs.Lists.{in_filter, in_find, in_push}
use Rattle.pp_laws.proofs.Sound.{Since, Sound}
use Rattle.pp_laws.proofs.Tests.{first_holds, second_holds}
use Rattle.pp_laws_bounds.specs.Bounds.{HasFewPins, HasShortLines}
use Rattle.pp_laws_bounds.proofs.Kept.{is_early}
use Rattle.pp_laws_pool.proofs.Marks.{reading_marked}
use Rattle.pp_laws_pool.proofs.PoolFacts.{As, GoesOn, Pool, calm, nothing_read, pool_begins, pool_places, pool_uses, pool_walk}
use Rattle.pp_laws_pool.proofs.PoolGot.{no_answer, read-pool, set_apart}
use Rattle.pp_laws_pool.proofs.PoolLoads.{loaded_inv}
use Rattle.pp_laws_pool.proofs.PoolTurns.{Inv, Keeps, Loaded, Quiet, Went, Where, as_phase, at_phase, come_to-went, come_to_decide-went, free_at, handled, in_owed, is_busy, moved_to, rephased, rests, stays, works}
use Rattle.pp_laws_pool.proofs.View.{View, Walk, Holds, holds, facts_of, view}
use Rattle.pp_laws_pool.proofs.WalkCases.{by_pause, each_of, each_so, when}
use Rattle.pp_laws_pool.proofs.WalkClients.{ask-keeps, begin_replies-keeps, close_client-keeps, decided-keeps, end_replies-keeps, fill-keeps, hang_up-keeps, hear-keeps, regained-keeps, use_said-keeps}
use Rattle.pp_laws_pool.proofs.WalkDisk.{begin_in_opening-keeps, begin_in_turn-keeps, close_name-keeps, end_op-keeps, lose_in_opening-keeps, note_gone-keeps, note_kept-keeps}
use Rattle.pp_laws_pool.proofs.WalkExchanges.{clients_changed-keeps, end_exchange-keeps, lose_attempt-keeps, on_client-keeps, on_conn-keeps, same_conn}
use Rattle.pp_laws_pool.proofs.WalkPieces.{ended-keeps}
use Rattle.pp_laws_pool.proofs.WalkRows.{drop_chunk-keeps, forget-keeps}
use Rattle.pp_laws_pool.proofs.WalkSteps.{placing-keeps, rested-keeps, tick-keeps, touch-keeps}
use Rattle.pp_laws.proofs.Callers.{said_by-same}

-- ---- events

-- an event, where there is room for 32
event_quiet : (c : Settings) (most : ℕ) (s : State) → 512 ≤ c.critical → most ≤ calm c → Holds (Pool (Where c Awaiting Free most)) s → Quiet (event s)
unfolding event
event_quiet c most s marked few h = works c Handling most _ refl marked (within few) (regained-keeps (pool_walk (Where c Handling Free most)) _ (moved_to c Awaiting Handling Free most s h))
  where
    within : most ≤ calm c → most ≤ c.critical
    within le = omega arith

-- and something is owed to it
owing_quiet : (owed : Owed) (n : ℕ) (c : Settings) (most : ℕ) (s : State) → 512 ≤ c.critical → most ≤ calm c → Holds (Pool (Where c Awaiting Free most)) s → Quiet (event (owing owed n s))
unfolding event owing
owing_quiet owed n c most s marked few h = record {
  settings = c;
  phase = Handling;
  owed = owed;
  most = most;
  held = regained-keeps (pool_walk (Where c Handling owed most)) _ (rephased c Awaiting Handling Free owed most (touch n s) (touch-keeps (pool_walk (Where c Awaiting Free most)) n s h));
  marked = marked;
  within = within few;
  few = λ is. absurd (cc is);
  none_yet = λ is. absurd (cc is);
  owes = inr (refl, few);
}
  where
    within : most ≤ calm c → most ≤ c.critical
    within le = omega arith

opened-held : (n : ℕ) (s : State) → Keeps s (opened n s)
unfolding opened
opened-held n s c p o m h = holds (facts_of h)

reached-pool : (n : ℕ) (s : State) → Keeps s (reached n s)
unfolding reached
reached-pool n s c p o m h = let w = pool_walk (Where c p o m) in touch-keeps w n _ (on_conn-keeps w n (λ k. record k { is_reached = true }) s (λ k. same_conn _ k refl refl refl refl refl) h)

-- what happens to an awaiting state, and then the event
handled_by : (f : State → State) (s : State) → is_awaiting s ≡ true → Keeps s (f s) → Quiet s → Quiet (event (f s))
handled_by f s at keeps i = let w = handled i at in event_quiet w.0 w.1 (f s) w.2 w.3 (keeps w.0 Awaiting Free w.1 w.4)

-- ---- reads and writes

paid_quiet : (c : Settings) (phase : Phase) (owed : Owed) (most : ℕ) (s : State) → 512 ≤ c.critical → most ≤ c.critical → (is_busy phase ≡ false → most ≤ calm c) → (is_early phase ≡ true → most ≤ 0)
    → Holds (Pool (Where c phase owed most)) s → Quiet (paid s)
unfolding paid
paid_quiet c phase owed most s marked within few none_yet h = record {
  settings = c;
  phase = phase;
  owed = Free;
  most = most;
  held = regained-keeps (pool_walk (Where c phase Free most)) _ (rests_owed (facts_of h));
  marked = marked;
  within = within;
  few = few;
  none_yet = none_yet;
  owes = inl refl;
}
  where
    rests_owed : Pool (Where c phase owed most) (view s) → Holds (Pool (Where c phase Free most)) (record s { owed = Free })
    rests_owed f = holds (record { set = f.set; at = f.at; owes = refl; few = f.few; apart = f.apart; near = f.near; going = f.going; unread = f.unread; lined = f.lined })

pay : {s : State} (t : State) → Keeps s t → Quiet s → Quiet (paid t)
pay t keeps i = paid_quiet i.settings i.phase i.owed i.most t i.marked i.within i.few i.none_yet (keeps i.settings i.phase i.owed i.most i.held)

within_one : (critical : ℕ) → 512 ≤ critical → critical - 32 + 1 ≤ critical
within_one critical le = omega arith

pay_loaded : {s : State} (t : State) → Keeps s t → Loaded s → Quiet (paid t)
pay_loaded t keeps l = paid_quiet l.settings Handling (WriteTo l.client) (calm l.settings + 1) t l.marked (within_one l.settings.critical l.marked) (λ is. absurd (cc is)) (λ is. absurd (cc is)) (keeps l.settings Handling (WriteTo l.client) (calm l.settings + 1) l.held)

pays : {s : State} (t : State) → Keeps s t → Inv s → Inv (paid t)
pays t keeps (inl i) = inl (pay t keeps i)
pays t keeps (inr l) = inl (pay_loaded t keeps l)

said-pool : (c n : ℕ) (s : State) → Keeps s (said c n s)
unfolding said
said-pool c n s b p o m h =
    let a = Where b p o m in
    each_of (client s c) h (λ x. end_replies-keeps (pool_walk a) _ (on_client-keeps (pool_walk a) c (said_by n) _ (λ y. (said_by-same n y).number) (use_said-keeps (pool_uses a) n x s h)))

gone-pool : (is_clean : Bool) (n : ℕ) (s : State) → Keeps s (gone is_clean n s)
unfolding gone
gone-pool is_clean n s b p o m h = let w = pool_walk (Where b p o m) in each_of (conn s n) h (λ k. end_replies-keeps w _ (ended-keeps w is_clean k s h))

unread-pool : (name : Bytes) (s : State) → Keeps s (lose_in_opening name (close_name name s))
unread-pool name s b p o m h = lose_in_opening-keeps name _ (close_name-keeps name s h)

broke_quiet : (n : ℕ) (s : State) → Inv s → Inv (paid (gone false n (event s)))
unfolding event
broke_quiet n s (inl i) = inl (paid_quiet i.settings Handling i.owed i.most _ i.marked i.within (λ is. absurd (cc is)) (λ is. absurd (cc is)) (gone-pool false n _ i.settings Handling i.owed i.most (regained-keeps (pool_walk (Where i.settings Handling i.owed i.most)) _ (moved_to i.settings i.phase Handling i.owed i.most s i.held))))
broke_quiet n s (inr l) = inl (paid_quiet l.settings Handling (WriteTo l.client) (calm l.settings + 1) _ l.marked (within_one l.settings.critical l.marked) (λ is. absurd (cc is)) (λ is. absurd (cc is)) (gone-pool false n _ l.settings Handling (WriteTo l.client) (calm l.settings + 1) (regained-keeps (pool_walk (Where l.settings Handling (WriteTo l.client) (calm l.settings + 1))) _ (moved_to l.settings Handling Handling (WriteTo l.client) (calm l.settings + 1) s l.held))))

-- ---- one read

min_least : (a b n : ℕ) → nat_le n (min a b) ≡ true → n ≤ a
min_least a b n is = by (min-le_left a b)
  where
    by : min a b ≤ a → n ≤ a
    by le = grind (arith, nat_tests)

read_short : (most : ℕ) (bytes : Bytes) → is_read most bytes ≡ true → length bytes ≤ 32768
read_short most bytes is = min_least read_limit most (length bytes) (second_holds (nat_le 1 (length bytes)) (nat_le (length bytes) (min read_limit most)) is)

reads_owed : (o : Owed) (n : ℕ) → is_reading o n ≡ true → (o ≡ Free → ⊥)
reads_owed Free n is e = cc is
reads_owed (ReadOf m) n is e = cc e
reads_owed (WriteTo m) n is e = cc is

got_quiet : (n : ℕ) (bytes : Bytes) (s : State) → permits_got s n bytes ≡ true → HasShortLines s → Quiet s → Quiet (paid (end_replies (got (length bytes) n bytes s)))
got_quiet n bytes s is short i = by i.owes
  where
    c : Settings
    c = i.settings

    reads : is_reading s.owed n ≡ true
    reads = first_holds (is_reading s.owed n) (is_read (read_room s n) bytes) is

    brief : length bytes ≤ 32768
    brief = read_short (read_room s n) bytes (second_holds (is_reading s.owed n) (is_read (read_room s n) bytes) is)

    busy : i.phase ≡ Handling → is_busy i.phase ≡ true
    busy e = ap is_busy e

    late : i.phase ≡ Handling → is_early i.phase ≡ false
    late e = ap is_early e

    by : (i.owed ≡ Free) ⊎ ((i.phase ≡ Handling) × (i.most ≤ calm c)) → Quiet (paid (end_replies (got (length bytes) n bytes s)))
    by (inl free) = absurd (reads_owed s.owed n reads (in_owed i ∙ free))
    by (inr w) =
        paid_quiet c i.phase i.owed c.critical _ i.marked (le_refl c.critical) (λ calmly. let both : true ≡ false = sym (busy w.0) ∙ calmly in absurd (cc both)) (λ early. let both : true ≡ false = sym early ∙ late w.0 in absurd (cc both))
        (end_replies-keeps (pool_walk (Where c i.phase i.owed c.critical)) _ (read-pool (Where c i.phase i.owed i.most) n bytes s refl w.1 (marks c.critical i.marked) brief short i.held))
      where
        marks : (critical : ℕ) → 512 ≤ critical → 32 ≤ critical
        marks critical le = omega arith

-- ---- in a phase of its own

-- behind a phase where it is permitted
in_its_phase : (p : Phase) (test : State → Bool) (s : State) → may_in p test s ≡ true → is_at p (come_to p s) ≡ true
in_its_phase p test s is = by (is_at p (come_to p s)) is
  where
    by : (t : Bool) → (elim t as (λ c. Bool) [ true ↦ test (come_to p s) | false ↦ false ]) ≡ true → t ≡ true
    by true at = refl
    by false at = absurd (cc at)

at_connecting : (p : Phase) → is_same_phase Connecting p ≡ true → p ≡ Connecting
at_connecting Connecting is = refl
at_connecting p is = grind arith

-- a phase behind the disk, with nothing owed
record Late (phase : Phase) (s : State) : Type 0 where
  settings : Settings
  most : ℕ
  marked : 512 ≤ settings.critical
  few : most ≤ calm settings
  held : Holds (Pool (Where settings phase Free most)) s

is_late : (phase : Phase) (s : State) → s.phase ≡ phase → is_busy phase ≡ false → Quiet s → Late phase s
is_late phase s is calmly i = record {
  settings = i.settings;
  most = i.most;
  marked = i.marked;
  few = i.few (ap is_busy (sym (at_phase i) ∙ is) ∙ calmly);
  held = as_phase i.settings i.phase phase i.owed Free i.most s (sym (at_phase i) ∙ is) (free_at i (λ e. let both : true ≡ false = sym (ap is_busy (sym is ∙ at_phase i ∙ e)) ∙ calmly in cc both)) i.held;
}

late_quiet : (phase : Phase) (s : State) → is_early phase ≡ false → Late phase s → Quiet s
late_quiet phase s late l = rests l.settings phase l.most s l.marked l.few (λ is. let both : true ≡ false = sym is ∙ late in absurd (cc both)) l.held

connecting : (test : State → Bool) (s : State) → may_in Connecting test s ≡ true → Went s → Late Connecting (come_to Connecting s)
connecting test s is w = let t : State = come_to Connecting s in is_late Connecting t (at_connecting t.phase (in_its_phase Connecting test s is)) refl (come_to-went Connecting s w).inv

shut-late : (n : ℕ) (s : State) → Late Connecting s → Quiet (shut n s)
unfolding shut
shut-late n s l = rests l.settings Connecting l.most _ l.marked l.few (λ is. absurd (cc is)) (holds (facts_of (close_client-keeps (pool_walk (Where l.settings Connecting Free l.most)) n false s l.held)))

-- a new connection has no answer, and nothing of a head
dialled_held : (c : Settings) (most : ℕ) (s : State) (k : Conn) (n : ℕ) → k.answer ≡ None → k.unread ≡ [] → Holds (Pool (Where c Connecting Free most)) s → Holds (Pool (Where c Connecting Free most)) (record s { conns = s.conns ++ k ∷ []; top = n })
dialled_held c most s k n none nothing h = holds (record {
  set = (facts_of h).set;
  at = (facts_of h).at;
  owes = (facts_of h).owes;
  few = (facts_of h).few;
  apart = (facts_of h).apart;
  near = (facts_of h).near;
  going = λ j x i is. going j x (in_push j s.conns k i) is;
  unread = λ j i. unread_by j (in_push j s.conns k i);
  lined = λ m most2 j is. absurd (cc is);
})
  where
    going : (j : Conn) (x : Answer) → IsIn j s.conns ⊎ (j ≡ k) → j.answer ≡ Some x → GoesOn x ⊎ (no_answer ≡ set_apart j.number x)
    going j x (inl i) is = (facts_of h).going j x i is
    going j x (inr e) is = let both : None ≡ Some x = sym none ∙ sym (ap (λ (y : Conn). y.answer) e) ∙ is in absurd (cc both)

    unread_by : (j : Conn) → IsIn j s.conns ⊎ (j ≡ k) → response_at j.unread ≡ More
    unread_by j (inl i) = (facts_of h).unread j i
    unread_by j (inr e) = ap (λ (y : Conn). response_at y.unread) e ∙ ap response_at nothing ∙ nothing_read

dialled-late : (n : ℕ) (host : Bytes) (port : ℕ) (s : State) → Late Connecting s → Quiet (dialled n host port (placing s))
unfolding dialled
dialled-late n host port s l = rests l.settings Connecting l.most _ l.marked l.few (λ is. absurd (cc is)) (by_pause (placing s).pause put (λ k e. put) (λ e. put_it e))
  where
    a : As
    a = Where l.settings Connecting Free l.most

    put : Holds (Pool a) (placing s).state
    put = placing-keeps (pool_places a refl) s l.held

    put_it : (e : Exchange) → Holds (Pool a) (put_on e.number n (record (placing s).state { conns = (placing s).state.conns ++ new_conn n host port (placing s).state.clock ∷ []; top = n }))
    put_it e = holds (pool_places a refl e.number n _ (facts_of (dialled_held l.settings l.most (placing s).state (new_conn n host port (placing s).state.clock) n refl refl put)))

undialled-late : (s : State) → Late Connecting s → Quiet (undialled (placing s))
unfolding undialled refused_dial
undialled-late s l = pausing (placing s).pause
  where
    a : As
    a = Where l.settings Connecting Free l.most

    put : Holds (Pool a) (placing s).state
    put = placing-keeps (pool_places a refl) s l.held

    put_quiet : Quiet (placing s).state
    put_quiet = rests l.settings Connecting l.most _ l.marked l.few (λ is. absurd (cc is)) put

    lost : (e : Exchange) → State
    lost e = lose_attempt e (record (placing s).state { failures = (placing s).state.failures + 1 })

    lost_held : (e : Exchange) → Holds (Pool a) (lost e)
    lost_held e = lose_attempt-keeps (pool_walk a) e _ (holds (facts_of put))

    refused : (e : Exchange) (t : Bool) → Quiet (elim t as (λ c. State) [ true ↦ lost e | false ↦ fill (end_exchange e.number (lost e)) ])
    refused e true = rests l.settings Connecting l.most _ l.marked l.few (λ is. absurd (cc is)) (lost_held e)
    refused e false = rests l.settings Connecting l.most _ l.marked l.few (λ is. absurd (cc is)) (fill-keeps (pool_walk a) (pool_begins a) _ (end_exchange-keeps (pool_walk a) e.number _ (lost_held e)))

    pausing : (p : Pause) → Quiet (elim p as (λ c. State) [ AllPlaced ↦ (placing s).state | WaitsDrop k e ↦ (placing s).state | WaitsDial e ↦ refused_dial e (lost e) ])
    pausing AllPlaced = put_quiet
    pausing (WaitsDrop k e) = put_quiet
    pausing (WaitsDial e) = refused e (may_ask_again (lost e) e.number)

out-held : (c : Settings) (most n : ℕ) (s : State) → Holds (Pool (Where c Connecting Free most)) s → Holds (Pool (Where c Connecting Free most)) (out n s)
unfolding out
out-held c most n s h = holds (record {
  set = (facts_of h).set;
  at = (facts_of h).at;
  owes = (facts_of h).owes;
  few = (facts_of h).few;
  apart = (facts_of h).apart;
  near = (facts_of h).near;
  going = λ j x i is. (facts_of h).going j x (in_filter (λ k. not (is_conn n k)) j s.conns i).0 is;
  unread = λ j i. (facts_of h).unread j (in_filter (λ k. not (is_conn n k)) j s.conns i).0;
  lined = λ m most2 j is. absurd (cc is);
})

dropped-late : (n : ℕ) (s : State) → Late Connecting s → Quiet (dropped n s)
unfolding dropped
dropped-late n s l = rests l.settings Connecting l.most _ l.marked l.few (λ is. absurd (cc is)) (each_of (conn s n) l.held (λ k. when k.is_closing (out-held l.settings l.most n s l.held) (out-held l.settings l.most n _ (placing-keeps (pool_places (Where l.settings Connecting Free l.most) refl) s l.held))))

-- ---- decisions and cuts

deciding_late : (test : State → Bool) (s : State) → may_decide test s ≡ true → Went s → Late Deciding (deciding s)
unfolding deciding
deciding_late test s is w = by (decides t) refl is
  where
    t : State
    t = come_to_decide s

    q : Quiet t
    q = (come_to_decide-went s w).inv

    calmly : (p : Phase) → (elim (is_same_phase Deciding p) as (λ c. Bool) [ true ↦ not (is_done t) | false ↦ is_same_phase DecidingAgain p ]) ≡ true → is_busy p ≡ false
    calmly Handling at = absurd (cc at)
    calmly Evicting at = absurd (cc at)
    calmly p at = refl

    moved : is_busy t.phase ≡ false → Late Deciding (in_phase Deciding t)
    moved at = let l = is_late t.phase t refl at q in record { settings = l.settings; most = l.most; marked = l.marked; few = l.few; held = moved_to l.settings t.phase Deciding Free l.most t l.held }

    by : (d : Bool) → decides t ≡ d → (elim d as (λ c. Bool) [ true ↦ test t | false ↦ false ]) ≡ true → Late Deciding (in_phase Deciding t)
    by true at tests = moved (calmly t.phase at)
    by false at tests = absurd (cc tests)

take_decision-late : (n : ℕ) (d : Decision) (s : State) → Late Deciding s → Quiet (take_decision n d s)
unfolding take_decision
take_decision-late n d s l = rests l.settings Deciding l.most _ l.marked l.few (λ is. absurd (cc is))
    (each_so (client s n) (λ none. l.held) (λ c found. regained-keeps w _ (holds (facts_of (decided-keeps w (pool_begins a) c d s (in_find (is_client n) c s.clients found).0 l.held)))))
  where
    a : As
    a = Where l.settings Deciding Free l.most

    w : Walk (Pool a)
    w = pool_walk a

cut-late : (n : ℕ) (s : State) → Late Deciding s → Quiet (close_client n true s)
cut-late n s l = rests l.settings Deciding l.most _ l.marked l.few (λ is. absurd (cc is)) (close_client-keeps (pool_walk (Where l.settings Deciding Free l.most)) n true s l.held)

-- ---- what leaves memory

evicted-pool : (s : State) → Keeps s (evicted s)
unfolding evicted
evicted-pool s c p o m h = each_of (due_victim s) h (λ place. drop_chunk-keeps (pool_walk (Where c p o m)) place.0 place.1 s h)

refused_row-pool : (x : Instance) (s : State) → Keeps s (refused_row x s)
unfolding refused_row
refused_row-pool x s c p o m h = holds (facts_of (forget-keeps (pool_walk (Where c p o m)) x.id s h))

forgotten_quiet : (key : Bytes) (s : State) → Went s → Quiet (forgotten_by key s)
unfolding forgotten_by leave_memory
forgotten_quiet key s w = leaving (leaving_as s key)
  where
    leaving : (o : Option Leaving) → Quiet (elim o as (λ c. State) [ None ↦ s | Some how ↦ leave_memory how s ])
    leaving None = w.inv
    leaving (Some ForAnother) = stays _ (λ c p o m h. holds (facts_of h)) (come_to-went Evicting s w).inv
    leaving (Some (ForMemory x)) = stays _ (refused_row-pool x _) (come_to-went Evicting s w).inv
    leaving (Some (BeforeDecision x)) = stays _ (λ c p o m h. holds (facts_of (forget-keeps (pool_walk (Where c p o m)) x.id _ h))) (come_to_decide-went s w).inv

-- ---- the disk

begun_op_quiet : (op : DiskOp) (s : State) → Went s → Quiet (begun_op op s)
unfolding begun_op
begun_op_quiet op s w = by (is_opening s)
  where
    by : (t : Bool) → Quiet (elim t as (λ c. State) [ true ↦ begin_in_opening op s | false ↦ begin_in_turn op (come_to Keeping s) ])
    by true = stays _ (λ c p o m h. begin_in_opening-keeps op s h) w.inv
    by false = stays _ (λ c p o m h. begin_in_turn-keeps op _ h) (come_to-went Keeping s w).inv

ended_op-pool : (op : DiskOp) (ok : Bool) (s : State) → Keeps s (ended_op op ok s)
unfolding ended_op
ended_op-pool op true s c p o m h = end_op-keeps op true s h
ended_op-pool op false s c p o m h = lose_in_opening-keeps s.agenda.name _ (end_op-keeps op false s h)

-- ---- the opening

-- of no chunk there are few, whatever the settings
anew_held : (c d : Settings) (phase phase2 : Phase) (most : ℕ) (s : State) → most ≤ 0 → Holds (Pool (Where c phase Free most)) s → Holds (Pool (Where d phase2 Free 0)) (record s { phase = phase2; settings = d })
anew_held c d phase phase2 most s none h = holds (record {
  set = refl;
  at = refl;
  owes = (facts_of h).owes;
  few = le_trans (facts_of h).few none;
  apart = (facts_of h).apart;
  near = inr (le_trans (le_trans (facts_of h).few none) zero-le);
  going = (facts_of h).going;
  unread = (facts_of h).unread;
  lined = λ m most2 j is. absurd (cc is);
})

-- the phases of the opening in which nothing was read
record Bare (s : State) : Type 0 where
  settings : Settings
  phase : Phase
  most : ℕ
  marked : 512 ≤ settings.critical
  none : most ≤ 0
  held : Holds (Pool (Where settings phase Free most)) s

bare_anew : (d : Settings) (phase : Phase) (s : State) → 512 ≤ d.critical → Bare s → Quiet (record s { phase = phase; settings = d })
bare_anew d phase s marked b = rests d phase 0 _ marked zero-le (λ is. zero-le) (anew_held b.settings d b.phase phase b.most s b.none b.held)

-- the settings that are there
bare_moved : (phase : Phase) (s : State) → Bare s → Quiet (record s { phase = phase })
bare_moved phase s b = rests b.settings phase b.most _ b.marked (le_trans b.none zero-le) (λ is. b.none) (moved_to b.settings b.phase phase Free b.most s b.held)

bare_stuck : (s : State) → Bare s → Quiet (stuck s)
unfolding stuck
bare_stuck s b = rests b.settings IsStuck b.most _ b.marked (le_trans b.none zero-le) (λ is. b.none) (holds (facts_of (moved_to b.settings b.phase IsStuck Free b.most s b.held)))

bare_set : (o : Option Settings) (s : State) → ((c : Settings) → o ≡ Some c → 512 ≤ c.critical) → Bare s → Quiet (with_settings o s)
unfolding with_settings
bare_set None s marked b = bare_moved IsStuck s b
bare_set (Some c) s marked b = bare_anew c IsConfigured s (marked c refl) b

is_bare : (phase : Phase) (s : State) → s.phase ≡ phase → is_early phase ≡ true → is_busy phase ≡ false → Quiet s → Bare s
is_bare phase s is early calmly i = record {
  settings = i.settings;
  phase = phase;
  most = i.most;
  marked = i.marked;
  none = i.none_yet (ap is_early (sym (at_phase i) ∙ is) ∙ early);
  held = as_phase i.settings i.phase phase i.owed Free i.most s (sym (at_phase i) ∙ is) (free_at i (λ e. let both : true ≡ false = sym (ap is_busy (sym is ∙ at_phase i ∙ e)) ∙ calmly in cc both)) i.held;
}

woken_quiet : (image : Files) (s : State) → Quiet (woken image s)
unfolding woken begun
woken_quiet image s = by (are_texts fresh.term) (names_file fresh.term)
  where
    fresh : State
    fresh = record (start (terms_behind s.terms)) { sent = s.sent; acknowledged = s.acknowledged; top = s.top; term = term_in s.terms; disk = Woke image ∷ []; entries = entries_in image }

    bare : Bare fresh
    bare = record {
      settings = defaults;
      phase = Before;
      most = 0;
      marked = omega arith;
      none = le_refl 0;
      held = holds (record { set = refl; at = refl; owes = refl; few = le_refl 0; apart = tt; near = inr zero-le; going = λ k x i. absurd i; unread = λ k i. absurd i; lined = λ m most k is. absurd (cc is) });
    }

    by : (t u : Bool) → Quiet (elim t as (λ c. State) [
      | false ↦ with_settings None fresh
      | true ↦ elim u as (λ c. State) [ true ↦ record fresh { phase = IsWoken } | false ↦ with_settings (settings_in (reading_of fresh.term.words None)) fresh ]
    ])
    by false u = bare_set None fresh (λ c is. absurd (cc is)) bare
    by true true = bare_moved IsWoken fresh bare
    by true false = bare_set (settings_in (reading_of fresh.term.words None)) fresh (λ c is. reading_marked fresh.term.words None c is) bare

opened_quiet : (phase : Phase) (ok : Bool) (s : State) → Bare s → Quiet (opened_to phase ok s)
unfolding opened_to
opened_quiet phase true s b = bare_moved phase s b
opened_quiet phase false s b = bare_stuck s b

configured_quiet : (text : Option Bytes) (s : State) → Bare s → Quiet (configured text s)
unfolding configured
configured_quiet None s b = bare_stuck s b
configured_quiet (Some text) s b = bare_set (settings_in (reading_of s.term.words (Some text))) s (λ c is. reading_marked s.term.words (Some text) c is) b

-- ---- a wait

come_nowhere : (stops : State → Bool) (ps : List Phase) (s : State) → list_any (λ p. is_at p s) ps ≡ false → come stops ps s ≡ s
unfolding come
come_nowhere stops [] s none = refl
come_nowhere stops (p ∷ ps) s none = by (is_at p s) none (λ rest. come_nowhere stops ps s rest)
  where
    by : (t : Bool) → (t || list_any (λ q. is_at q s) ps) ≡ false → (list_any (λ q. is_at q s) ps ≡ false → come stops ps s ≡ s) → come stops ps (elim t as (λ c. State) [ true ↦ passed stops s | false ↦ s ]) ≡ s
    by true is more = absurd (cc is)
    by false is more = more is

rest_quiet : (w : Wants) (c : Settings) (phase : Phase) (most : ℕ) (s : State) → 512 ≤ c.critical → most ≤ calm c → Holds (Pool (Where c phase Free most)) s → Quiet (rest_with w s)
unfolding rest_with
rest_quiet w c phase most s marked few h = rests c Awaiting most _ marked few (λ is. absurd (cc is)) (at_rest (rested-keeps (pool_walk (Where c phase Free most)) w s h))
  where
    at_rest : Pool (Where c phase Free most) (record (view s) { clients = map (rested_client s) s.clients; conns = map (rested_conn s w) s.conns; exchanges = map (rested_exchange s) s.exchanges }) → Holds (Pool (Where c Awaiting Free most)) (rest_with w s)
    at_rest f = holds (record { set = f.set; at = refl; owes = refl; few = f.few; apart = f.apart; near = inr (le_trans f.few few); going = f.going; unread = f.unread; lined = f.lined })

waits_quiet : (w : Wants) (s : State) → may_wait s ≡ true → Went s → Quiet (rest_with w (ending s))
unfolding ending come_to
waits_quiet w s may went = by (is_at IsListening s) refl may
  where
    t : State
    t = come_to DecidingAgain s

    over : (phase : Phase) → t.phase ≡ phase → is_busy phase ≡ false → Quiet (rest_with w (begin_replies t))
    over phase is calmly =
        let l = is_late phase t is calmly (come_to-went DecidingAgain s went).inv in
        rest_quiet w l.settings phase l.most _ l.marked l.few (begin_replies-keeps (pool_walk (Where l.settings phase Free l.most)) t l.held)

    listening : (p : Phase) → is_same_phase IsListening p ≡ true → p ≡ IsListening
    listening IsListening at = refl
    listening p at = grind arith

    again : (p : Phase) → is_same_phase DecidingAgain p ≡ true → p ≡ DecidingAgain
    again DecidingAgain at = refl
    again p at = grind arith

    nowhere : s.phase ≡ IsListening → come (is_at DecidingAgain) phases s ≡ s
    nowhere is = come_nowhere (is_at DecidingAgain) phases s (ap (λ q. list_any (λ p. is_same_phase p q) phases) is)

    by : (u : Bool) → is_at IsListening s ≡ u → (u || (not s.is_stopped && may_end s)) ≡ true → Quiet (rest_with w (begin_replies t))
    by true at holds_so = over IsListening (ap (λ (x : State). x.phase) (nowhere (listening s.phase at)) ∙ listening s.phase at) refl
    by false at holds_so = over DecidingAgain (again t.phase (in_its_phase DecidingAgain is_done s (second_holds (not s.is_stopped) (may_end s) holds_so))) refl

-- ---- while a chunk was loaded nothing but the event is handled

come_stuck : (stops : State → Bool) (ps : List Phase) (s : State) → is_done s ≡ false → come stops ps s ≡ s
unfolding come
come_stuck stops [] s isnt = refl
come_stuck stops (p ∷ ps) s isnt = by (is_at p s) (stops s) (is_done s) isnt (come_stuck stops ps s isnt)
  where
    by : (t u v : Bool) → v ≡ false → come stops ps s ≡ s → come stops ps (elim t as (λ c. State) [ true ↦ elim u as (λ c. State) [ true ↦ s | false ↦ elim v as (λ c. State) [ true ↦ next s | false ↦ s ] ] | false ↦ s ]) ≡ s
    by true true v none rest = rest
    by true false true none rest = absurd (cc none)
    by true false false none rest = rest
    by false u v none rest = rest

at_work : {s : State} → Loaded s → s.phase ≡ Handling
at_work l = (facts_of l.held).at

in_work : {s : State} → (l : Loaded s) → is_done s ≡ false
in_work {s} l = by s.phase s.owed (at_work l) (facts_of l.held).owes
  where
    by : (p : Phase) (o : Owed) → p ≡ Handling → o ≡ WriteTo l.client → is_done_with p s ≡ false
    by p o at owes = ap (λ q. is_done_with q s) at ∙ ap is_free (facts_of l.held).owes

stuck_at : {s : State} → Loaded s → (p : Phase) → is_same_phase p Handling ≡ false → is_at p s ≡ false
stuck_at l p apart = ap (is_same_phase p) (at_work l) ∙ apart

not_in : {s : State} → Loaded s → (p : Phase) (test : State → Bool) → is_same_phase p Handling ≡ false → may_in p test s ≡ true → ⊥
unfolding come_to
not_in {s} l p test apart is =
    let here : is_at p s ≡ true = ap (is_at p) (sym (come_stuck (is_at p) phases s (in_work l))) ∙ in_its_phase p test s is in
    let both : true ≡ false = sym here ∙ stuck_at l p apart in
    cc both

not_decided : {s : State} → Loaded s → decides (come_to_decide s) ≡ false
unfolding come_to_decide
not_decided {s} l = ap decides (come_stuck decides phases s (in_work l)) ∙ by s.phase (at_work l)
  where
    by : (p : Phase) → p ≡ Handling → (elim (is_same_phase Deciding p) as (λ c. Bool) [ true ↦ not (is_done s) | false ↦ is_same_phase DecidingAgain p ]) ≡ false
    by Handling at = refl
    by p at = subst (λ q. (elim (is_same_phase Deciding q) as (λ c. Bool) [ true ↦ not (is_done s) | false ↦ is_same_phase DecidingAgain q ]) ≡ false) (sym at) refl

not_due : {s : State} → Loaded s → (test : State → Bool) → may_decide test s ≡ true → ⊥
not_due {s} l test is = by (decides (come_to_decide s)) (not_decided l) is
  where
    by : (t : Bool) → t ≡ false → (elim t as (λ c. Bool) [ true ↦ test (come_to_decide s) | false ↦ false ]) ≡ true → ⊥
    by true none at = cc none
    by false none at = cc at

is_false : (t : Bool) → (t ≡ true → ⊥) → t ≡ false
is_false true isnt = absurd (isnt refl)
is_false false isnt = refl

not_leaving : {s : State} → Loaded s → (key : Bytes) → is_some (leaving_as s key) ≡ true → ⊥
not_leaving {s} l key is =
    by (may_in Evicting (λ t. is_first key t.forgotten) s) (may_in Evicting (λ t. is_empty t.forgotten) s) (decides (come_to_decide s))
    (is_false (may_in Evicting (λ t. is_first key t.forgotten) s) (not_in l Evicting (λ t. is_first key t.forgotten) refl)) (is_false (may_in Evicting (λ t. is_empty t.forgotten) s) (not_in l Evicting (λ t. is_empty t.forgotten) refl)) (not_decided l) is
  where
    by : (a b d : Bool) → a ≡ false → b ≡ false → d ≡ false → is_some (elim a as (λ c. Option Leaving) [
      | true ↦ Some ForAnother
      | false ↦ elim (elim b as (λ c. Option Instance) [ true ↦ if_so (λ x. x.is_new) (row s key) | false ↦ None ]) as (λ c. Option Leaving) [
        | Some x ↦ Some (ForMemory x)
        | None ↦ option_map BeforeDecision (elim d as (λ c. Option Instance) [ true ↦ makes_room (come_to_decide s) key | false ↦ None ])
      ]
    ]) ≡ true → ⊥
    by false false false p q r at = cc at
    by true b d p q r at = cc p
    by false true d p q r at = cc q
    by false false true p q r at = cc r

-- ---- what is permitted

unhampered : (made : Option ℕ) (t : Bool) → (elim made as (λ c. Bool) [ Some who ↦ false | None ↦ t ]) ≡ true → t ≡ true
unhampered (Some who) t is = absurd (cc is)
unhampered None t is = is

-- what is permitted is permitted where no row has to leave before a decision
permitted_so : (s : State) (h : Happening) → IsPermitted s h → permits s h ≡ true
unfolding is_permitted permits
permitted_so s (Woke image) is = by s.has_made_room is
  where
    by : (room : Option ℕ) → (elim room as (λ x. Bool) [ Some who ↦ permits_woke s image | None ↦ permits_woke s image ]) ≡ true → permits_woke s image ≡ true
    by (Some who) at = at
    by None at = at
permitted_so s (Noted (Taken c i d)) is = by s.has_made_room is
  where
    by : (room : Option ℕ) → (elim room as (λ x. Bool) [ Some who ↦ permits_taken s c i d && not (is_for_memory d) | None ↦ permits_taken s c i d ]) ≡ true → permits_taken s c i d ≡ true
    by (Some who) at = first_holds (permits_taken s c i d) (not (is_for_memory d)) at
    by None at = at
permitted_so s (Noted (Cut c cause)) is = unhampered s.has_made_room _ is
permitted_so s (Noted (Kept key tag n extent)) is = unhampered s.has_made_room _ is
permitted_so s (Noted (Gone key)) is = unhampered s.has_made_room _ is
permitted_so s (Noted (Forgotten key)) is = unhampered s.has_made_room _ is
permitted_so s (Noted (Evicted key tag n i)) is = unhampered s.has_made_room _ is
permitted_so s (Noted (WasLoaded key tag n i)) is = unhampered s.has_made_room _ is
permitted_so s (Waits w) is = unhampered s.has_made_room _ is
permitted_so s (Clock seconds) is = unhampered s.has_made_room _ is
permitted_so s (Opened n) is = unhampered s.has_made_room _ is
permitted_so s (CanRead n) is = unhampered s.has_made_room _ is
permitted_so s (CanWrite n) is = unhampered s.has_made_room _ is
permitted_so s (Heard c bytes) is = unhampered s.has_made_room _ is
permitted_so s (HungUp c) is = unhampered s.has_made_room _ is
permitted_so s (Said c offered bytes) is = unhampered s.has_made_room _ is
permitted_so s (Shut c) is = unhampered s.has_made_room _ is
permitted_so s (Dialled n host port) is = unhampered s.has_made_room _ is
permitted_so s (Undialled host port) is = unhampered s.has_made_room _ is
permitted_so s (Reached n) is = unhampered s.has_made_room _ is
permitted_so s (Ended n) is = unhampered s.has_made_room _ is
permitted_so s (Broke n) is = unhampered s.has_made_room _ is
permitted_so s (Asked n bytes) is = unhampered s.has_made_room _ is
permitted_so s (Got n bytes) is = unhampered s.has_made_room _ is
permitted_so s (Dropped n) is = unhampered s.has_made_room _ is
permitted_so s (NoneYet n) is = unhampered s.has_made_room _ is
permitted_so s (Began op) is = unhampered s.has_made_room _ is
permitted_so s (Did op ok) is = unhampered s.has_made_room _ is
permitted_so s (Unread name) is = unhampered s.has_made_room _ is
permitted_so s (Rooted folder) is = unhampered s.has_made_room _ is
permitted_so s (Listed ok) is = unhampered s.has_made_room _ is
permitted_so s (Listens port ok) is = unhampered s.has_made_room _ is
permitted_so s (Configured file text) is = unhampered s.has_made_room _ is
permitted_so s (Printed text) is = unhampered s.has_made_room _ is
permitted_so s Stopped is = unhampered s.has_made_room _ is

-- ---- where it awaits, or is in the opening

not_awaiting : {s : State} → Loaded s → is_awaiting s ≡ true → ⊥
not_awaiting l is = let both : true ≡ false = sym is ∙ stuck_at l Awaiting refl in cc both

not_early : {s : State} → Loaded s → (p : Phase) → is_same_phase p Handling ≡ false → is_at p s ≡ true → ⊥
not_early l p apart is = let both : true ≡ false = sym is ∙ stuck_at l p apart in cc both

not_opening : {s : State} → Loaded s → is_opening s ≡ true → ⊥
not_opening {s} l is = let both : true ≡ false = sym is ∙ ap (λ q. list_any (λ p. is_same_phase p q) (IsWoken ∷ IsConfigured ∷ IsRooted ∷ IsListed ∷ IsListening ∷ IsStuck ∷ [])) (at_work l) in cc both

-- nothing is under way, and nothing is left to do
idle_disk : (a b : Bool) → (a && b) ≡ true → (a ≡ true) × (b ≡ true)
idle_disk true b is = (refl, is)
idle_disk false b is = absurd (cc is)

not_under_way : {s : State} → Loaded s → (op : DiskOp) → may_end_op s op ≡ true → ⊥
not_under_way {s} l op is = by s.under_way (idle_disk (is_idle_disk s) (is_empty s.agenda.todo) l.idle).0 is
  where
    by : (o : Option DiskOp) → not (is_some o) ≡ true → is_some_with (λ begun. is_same_op begun op) o ≡ true → ⊥
    by None none at = cc at
    by (Some begun) none at = cc none

not_acknowledged : {s : State} → Loaded s → (key tag : Bytes) (n extent : ℕ) → is_acknowledged_as key tag n extent s.agenda.todo ≡ true → ⊥
not_acknowledged {s} l key tag n extent is = by s.agenda.todo (idle_disk (is_idle_disk s) (is_empty s.agenda.todo) l.idle).1 is
  where
    by : (todo : List Todo) → is_empty todo ≡ true → is_acknowledged_as key tag n extent todo ≡ true → ⊥
    by [] none at = cc at
    by (d ∷ ds) none at = cc none

not_waiting : {s : State} → Loaded s → may_wait s ≡ true → ⊥
not_waiting {s} l is = by (is_at IsListening s) (stuck_at l IsListening refl) is
  where
    by : (t : Bool) → t ≡ false → (t || (not s.is_stopped && may_end s)) ≡ true → ⊥
    by true none at = cc none
    by false none at = not_in l DecidingAgain is_done refl (second_holds (not s.is_stopped) (may_end s) at)

-- ---- all

at_this : (p q : Phase) → is_same_phase p q ≡ true → is_early p ≡ true → (q ≡ p)
at_this IsWoken IsWoken is early = refl
at_this IsConfigured IsConfigured is early = refl
at_this IsRooted IsRooted is early = refl
at_this IsListed IsListed is early = refl
at_this IsListening IsListening is early = refl
at_this IsStuck IsStuck is early = refl
at_this p q is early = grind arith

bare_at : (p : Phase) (s : State) → is_at p s ≡ true → is_early p ≡ true → is_busy p ≡ false → Quiet s → Bare s
bare_at p s is early calmly q = is_bare p s (at_this p s.phase is early) early calmly q

only : {s : State} {t : State} → (Quiet s → Quiet t) → (Loaded s → ⊥) → Inv s → Inv t
only quiet none (inl q) = inl (quiet q)
only quiet none (inr l) = absurd (none l)

three : (a b c : Bool) → (a && b && c) ≡ true → a ≡ true
three true b c is = refl
three false b c is = absurd (cc is)

either : (a b : Bool) → (a || b) ≡ true → (a ≡ true) ⊎ (b ≡ true)
either true b is = inl refl
either false b is = inr is

noted_inv : {b : Since} (s : State) (r : Remark) → permits_noted s r ≡ true → HasFewPins s → Sound b s → Inv s → Inv (noted r s)
unfolding noted
noted_inv s (Taken c i d) is pins_few known inv = only (λ q. take_decision-late c d _ (deciding_late (λ t. may_take t c i d) s is (record { inv = q; pinned = λ busy. pins_few }))) (λ l. not_due l (λ t. may_take t c i d) is) inv
noted_inv s (Cut c cause) is pins_few known inv = only (λ q. cut-late c _ (deciding_late (λ t. may_cut t c cause) s is (record { inv = q; pinned = λ busy. pins_few }))) (λ l. not_due l (λ t. may_cut t c cause) is) inv
noted_inv s (Kept key tag n extent) is pins_few known inv = only (stays _ (λ c p o m h. note_kept-keeps key extent s h)) (λ l. not_acknowledged l key tag n extent (second_holds (is_idle_disk s) (is_acknowledged_as key tag n extent s.agenda.todo) is)) inv
noted_inv s (Gone key) is pins_few known inv = only (λ q. stays _ (λ c p o m h. note_gone-keeps key _ h) (come_to-went Keeping s (record { inv = q; pinned = λ busy. pins_few })).inv) (λ l. not_in l Keeping (λ t. may_note_gone t key) refl is) inv
noted_inv s (Forgotten key) is pins_few known inv = only (λ q. forgotten_quiet key s (record { inv = q; pinned = λ busy. pins_few })) (λ l. not_leaving l key is) inv
noted_inv s (Evicted key tag n i) is pins_few known inv = only (λ q. stays _ (evicted-pool _) (come_to-went Evicting s (record { inv = q; pinned = λ busy. pins_few })).inv) (λ l. not_in l Evicting (λ t. may_evict t key tag n i) refl is) inv
noted_inv s (WasLoaded key tag n i) is pins_few known inv = loaded_inv key tag n i s is known inv

permitted_inv : {b : Since} (s : State) (h : Happening) → permits s h ≡ true → HasFewPins s → HasShortLines s → Sound b s → Inv s → Inv (changed s h)
unfolding permits changed unread
permitted_inv s (Woke image) is pins_few lines known inv = inl (woken_quiet image s)
permitted_inv s (Waits w) is pins_few lines known inv = only (λ q. waits_quiet w s may (record { inv = q; pinned = λ busy. pins_few })) (λ l. not_waiting l may) inv
  where
    of : (t : Bool) → (elim t as (λ c. Bool) [ true ↦ is_served (ending s) w | false ↦ false ]) ≡ true → t ≡ true
    of true at = refl
    of false at = absurd (cc at)

    may : may_wait s ≡ true
    may = of (may_wait s) is
permitted_inv s (Clock seconds) is pins_few lines known inv = only (handled_by (tick seconds) s is (λ c p o m h. tick-keeps (pool_walk (Where c p o m)) seconds s h)) (λ l. not_awaiting l is) inv
permitted_inv s (Opened n) is pins_few lines known inv = only (handled_by (opened n) s (first_holds (is_awaiting s) (may_open s n) is) (opened-held n s)) (λ l. not_awaiting l (first_holds (is_awaiting s) (may_open s n) is)) inv
permitted_inv s (CanRead n) is pins_few lines known inv = only (λ q. let w = handled q is in owing_quiet (ReadOf n) n w.0 w.1 s w.2 w.3 w.4) (λ l. not_awaiting l is) inv
permitted_inv s (CanWrite n) is pins_few lines known inv = only (λ q. let w = handled q is in owing_quiet (WriteTo n) n w.0 w.1 s w.2 w.3 w.4) (λ l. not_awaiting l is) inv
permitted_inv s (Heard c bytes) is pins_few lines known inv = pays _ (λ d p o m h. hear-keeps (pool_walk (Where d p o m)) c bytes s h) inv
permitted_inv s (HungUp c) is pins_few lines known inv = pays _ (λ d p o m h. hang_up-keeps (pool_walk (Where d p o m)) c s h) inv
permitted_inv s (Said c offered bytes) is pins_few lines known inv = pays _ (said-pool c (length bytes) s) inv
permitted_inv s (Shut c) is pins_few lines known inv = only (λ q. shut-late c _ (connecting (λ t. list_any (may_shut t c) t.clients) s is (record { inv = q; pinned = λ busy. pins_few }))) (λ l. not_in l Connecting (λ t. list_any (may_shut t c) t.clients) refl is) inv
permitted_inv s (Dialled n host port) is pins_few lines known inv = only (λ q. dialled-late n host port _ (connecting (λ t. may_dial t host port) s (second_holds (is_new_number s n) (permits_dial s host port) is) (record { inv = q; pinned = λ busy. pins_few }))) (λ l. not_in l Connecting (λ t. may_dial t host port) refl (second_holds (is_new_number s n) (permits_dial s host port) is)) inv
permitted_inv s (Undialled host port) is pins_few lines known inv = only (λ q. undialled-late _ (connecting (λ t. may_dial t host port) s (second_holds (may_fail s false) (permits_dial s host port) is) (record { inv = q; pinned = λ busy. pins_few }))) (λ l. not_in l Connecting (λ t. may_dial t host port) refl (second_holds (may_fail s false) (permits_dial s host port) is)) inv
permitted_inv s (Reached n) is pins_few lines known inv = only (handled_by (reached n) s (first_holds (is_awaiting s) (has_conn s n) is) (reached-pool n s)) (λ l. not_awaiting l (first_holds (is_awaiting s) (has_conn s n) is)) inv
permitted_inv s (Ended n) is pins_few lines known inv = pays _ (gone-pool true n s) inv
permitted_inv s (Broke n) is pins_few lines known inv = broke_quiet n s inv
permitted_inv s (Asked n bytes) is pins_few lines known inv = pays _ (λ d p o m h. ask-keeps (pool_walk (Where d p o m)) n (length bytes) s h) inv
permitted_inv s (Got n bytes) is pins_few lines known inv = only (got_quiet n bytes s is lines) (λ l. not_read l n bytes is) inv
  where
    not_read : Loaded s → (m : ℕ) (bs : Bytes) → permits_got s m bs ≡ true → ⊥
    not_read l m bs at = let both : false ≡ true = sym (ap (λ o. is_reading o m) (facts_of l.held).owes) ∙ first_holds (is_reading s.owed m) (is_read (read_room s m) bs) at in cc both
permitted_inv s (Dropped n) is pins_few lines known inv = only (λ q. dropped-late n _ (connecting (λ t. may_drop t n) s is (record { inv = q; pinned = λ busy. pins_few }))) (λ l. not_in l Connecting (λ t. may_drop t n) refl is) inv
permitted_inv s (NoneYet n) is pins_few lines known inv = pays s (λ c p o m h. h) inv
permitted_inv s (Began op) is pins_few lines known inv = only (λ q. begun_op_quiet op s (record { inv = q; pinned = λ busy. pins_few })) (λ l. began l (either (is_at IsListed s && may_begin_in_opening op s) (may_in Keeping (may_begin_in_turn op) s) is)) inv
  where
    began : Loaded s → ((is_at IsListed s && may_begin_in_opening op s) ≡ true) ⊎ (may_in Keeping (may_begin_in_turn op) s ≡ true) → ⊥
    began l (inl at) = not_early l IsListed refl (first_holds (is_at IsListed s) (may_begin_in_opening op s) at)
    began l (inr at) = not_in l Keeping (may_begin_in_turn op) refl at
permitted_inv s (Did op ok) is pins_few lines known inv = only (stays _ (ended_op-pool op ok s)) (λ l. not_under_way l op (first_holds (may_end_op s op) (may_fail s ok) is)) inv
permitted_inv s (Unread name) is pins_few lines known inv = pays _ (unread-pool name s) inv
permitted_inv s (Noted remark) is pins_few lines known inv = noted_inv s remark is pins_few known inv
permitted_inv s (Rooted folder) is pins_few lines known inv = only (λ q. opened_quiet IsRooted true s (bare_at IsConfigured s (first_holds (is_at IsConfigured s) (bytes_eq folder s.settings.root) is) refl refl q)) (λ l. not_early l IsConfigured refl (first_holds (is_at IsConfigured s) (bytes_eq folder s.settings.root) is)) inv
permitted_inv s (Listed ok) is pins_few lines known inv = only (λ q. opened_quiet IsListed ok s (bare_at IsRooted s (first_holds (is_at IsRooted s) (may_fail s ok) is) refl refl q)) (λ l. not_early l IsRooted refl (first_holds (is_at IsRooted s) (may_fail s ok) is)) inv
permitted_inv s (Listens port ok) is pins_few lines known inv = only (λ q. opened_quiet IsListening ok s (bare_at IsListed s at refl refl q)) (λ l. not_early l IsListed refl at) inv
  where
    at : is_at IsListed s ≡ true
    at = three (is_at IsListed s) (port == s.settings.port) (is_recovered s) (first_holds (permits_listens s port) (may_fail s ok) is)
permitted_inv s (Configured file text) is pins_few lines known inv = only (λ q. configured_quiet text s (bare_at IsWoken s at refl refl q)) (λ l. not_early l IsWoken refl at) inv
  where
    at : is_at IsWoken s ≡ true
    at = first_holds (is_at IsWoken s) (is_some_with (λ named. bytes_eq named file) (file_of s.term.words)) (first_holds (permits_configured s file) (may_fail s (is_some text)) is)
permitted_inv s (Printed text) is pins_few lines known inv = inv
permitted_inv s Stopped is pins_few lines known inv = only (handled_by (λ t. record t { is_stopped = true }) s is (λ c p o m h. holds (facts_of h))) (λ l. not_awaiting l is) inv

pub after_inv : {b : Since} (s : State) (h : Happening) → IsPermitted s h → HasFewPins s → HasShortLines s → Sound b s → Inv s → Inv (after s h)
after_inv s h is pins_few lines known inv = permitted_inv s h (permitted_so s h is) pins_few lines known inv
