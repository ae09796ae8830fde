-- Each happening that is permitted leaves as few chunks as a turn leaves, or eviction has begun amid its event: so few are used at each wait.
use Rattle.std.proofs.Common.{◌≡◌, ◌⊎◌, refl, ℕ, ◌≤◌, Bool, true, false, ◌==◌, ◌&&◌, ◌||◌, bytes_eq, List, [], ◌∷◌, ◌++◌, length, is_some, Option, Some, None, inl, inr, sym, subst, ap, ◌∙◌, zero-le, le_refl, le_trans, arith}
use Rattle.std.specs.List.{list_any}
use Rattle.pp_conf.specs.Conf.{defaults}
use Rattle.pp_conf.specs.Words.{file_of}
use Rattle.pp_world.specs.declared.happening.Happening.TheVariants.{Woke, Waits, Clock, Opened, CanRead, CanWrite, Heard, HungUp, Said, Shut, Dialled, Undialled, Reached, Ended, Broke, Asked, Got, Dropped, NoneYet, Began, Did, Unread, Noted, Rooted, Listed, Listens, Configured, Printed, Stopped}
use Rattle.pp_world.specs.declared.happening.Happening.{Happening}
use Rattle.pp_world.specs.declared.note.Remark.TheVariants.{Taken, Cut, Kept, Gone, Forgotten, Evicted, Loaded as WasLoaded}
use Rattle.pp_world.specs.declared.note.Remark.{Remark}
use Rattle.pp_law.specs.After.{opened, owing, reached, paid, noted, unread, changed}
use Rattle.pp_law.specs.Asking.{is_read, is_reading, is_writing, permits_got, read_room}
use Rattle.pp_law.specs.Lists.{Bytes, is_some_with}
use Rattle.pp_law.specs.Opening.{is_at, is_same_phase, is_recovered, may_fail, permits_configured, permits_listens}
use Rattle.pp_law.specs.Permits.{may_cut, may_take, may_wait, permits, permits_noted}
use Rattle.pp_law.specs.Phases.{next, ending}
use Rattle.pp_law.specs.Replies.{end_replies}
use Rattle.pp_law.specs.Responses.{got}
use Rattle.pp_law.specs.Served.{is_served}
use Rattle.pp_law.specs.State.{State, Client, Entry, Instance, Before, IsWoken, IsConfigured, IsRooted, IsListed, IsListening, Awaiting, Handling, Evicting, Keeping, Deciding, Connecting, Owed, Free, ReadOf, WriteTo, start}
use Rattle.pp_law.specs.Table.{row}
use Rattle.pp_law.specs.Turn.{tick}
use Rattle.pp_laws.proofs.Tests.{first_holds, second_holds}
use Rattle.pp_laws_bounds.specs.Bounds.{HasFewPins}
use Rattle.pp_laws_bounds.proofs.Kept.{is_early}
use Rattle.pp_laws_pool.proofs.PoolFacts.{calm}
use Rattle.pp_laws_pool.proofs.PoolTurns.{Inv, in_owed, rests, at_phase as at_quiet}
use Rattle.pp_laws_pool.proofs.View.{Holds, holds, facts_of}
use Rattle.pp_laws_pool.proofs.WalkClients.{ask-keeps, close_client-keeps, end_replies-keeps, hang_up-keeps, hear-keeps}
use Rattle.pp_laws_pool.proofs.WalkDisk.{note_gone-keeps, note_kept-keeps}
use Rattle.pp_laws_pool.proofs.WalkSteps.{tick-keeps}
use Rattle.std.proofs.lemmas.List.{append-nil}
use Rattle.pp_law.proofs.Prefixes.{front_from}
use Rattle.pp_law.specs.Chunks.{put_chunk}
use Rattle.pp_law.specs.Lawful.{Lawful}
use Rattle.pp_law.specs.State.{Term}
use Rattle.pp_law.specs.Offers.{is_at_body}
use Rattle.pp_law.specs.Permits.{may_load, may_load_at}
use Rattle.pp_law.specs.Store.{chunk_in_file, is_at_rest, load, load_from}
use Rattle.pp_law.specs.Table.{kept_row, next_of}
use Rattle.pp_laws.specs.Runs.{state_after}
use Rattle.pp_laws.proofs.Happenings.{after_all-sound}
use Rattle.pp_laws.proofs.Laws.{start-sound}
use Rattle.pp_laws_bounds.proofs.Happenings.{from_now}
use Rattle.pp_laws_bounds.proofs.Laws.{short_lines}
use Rattle.pp_laws_bounds.proofs.SmallLaws.{few_pins}
use Rattle.pp_laws_pool.proofs.Along.{Steps, along}
use Rattle.pp_laws_pool.proofs.ChunkLists.{AreApart}
use Rattle.pp_laws_pool.proofs.PoolHappenings.{after_inv}
use Rattle.pp_laws_turn.proofs.Lifts.{obeying}
use Rattle.pp_obeys.proofs.Silent.{permitted_wide}
use Rattle.pp_obeys.specs.Obeys.{Obeys}
use Rattle.pp_world.specs.Log.{Log}
use Rattle.pp_joints_law.proofs.Enough.{Enough, IsEnough, enough_noted, enough_walk, got_enough}
use Rattle.pp_joints_law.proofs.EnoughTurns.{InPhase, Turns, come_to_turns, enough_now, known_at, next_turns}
use Rattle.pp_joints_law.proofs.EnoughSteps.{at_this, begun_op_so, configured_so, decided_at, dialled_so, dropped_so, ended_op_so, event_so, evicted_so, first_high, forgotten_so, gone_so, opened_so, opened_to_so, owing_so, paid_so, reached_so, said_so, shut_so, stays, take_decision_so, undialled_so, unread_so, waits_so, woken_so}

-- ---- where something is owed the event is handled

works_now : (s : State) → Inv s → (s.owed ≡ Free → ⊥) → s.phase ≡ Handling
works_now s (inl q) owes = by q.owes
  where
    by : (q.owed ≡ Free) ⊎ ((q.phase ≡ Handling) × (q.most ≤ calm q.settings)) → s.phase ≡ Handling
    by (inl free) = absurd (owes (in_owed q ∙ free))
    by (inr w) = at_quiet q ∙ w.0
works_now s (inr l) owes = (facts_of l.held).at

reads_owed : (o : Owed) (n : ℕ) → is_reading o n ≡ true → (o ≡ Free → ⊥)
reads_owed Free n is e = cc is
reads_owed (ReadOf m) n is e = cc e
reads_owed (WriteTo m) n is e = cc e

got_so : (n : ℕ) (bytes : Bytes) (s : State) → permits_got s n bytes ≡ true → Inv s → InPhase s → InPhase (paid (end_replies (got (length bytes) n bytes s)))
got_so n bytes s is inv i =
    paid_so _ (record { phase = Handling; held = end_replies-keeps (enough_walk Handling) _ (got_enough Handling refl (length bytes) n bytes s (known_at Handling s (works_now s inv (reads_owed s.owed n (first_holds (is_reading s.owed n) (is_read (read_room s n) bytes) is))) i)) })

-- a chunk is loaded before a write
writes_owed : (o : Owed) (n : ℕ) → is_writing o n ≡ true → (o ≡ Free → ⊥)
writes_owed Free n is e = cc is
writes_owed (ReadOf m) n is e = cc e
writes_owed (WriteTo m) n is e = cc e

three : (a b c : Bool) → (a && b && c) ≡ true → a ≡ true
three true b c is = refl
three false b c is = absurd (cc is)

some_writes : (s : State) (key tag : Bytes) (n i : ℕ) (cs : List Client) → list_any (may_load s key tag n i) cs ≡ true → (s.owed ≡ Free → ⊥)
some_writes s key tag n i [] is = absurd (cc is)
some_writes s key tag n i (c ∷ cs) is = by (may_load s key tag n i c) refl is (λ rest. some_writes s key tag n i cs rest)
  where
    by : (t : Bool) → may_load s key tag n i c ≡ t → (t || list_any (may_load s key tag n i) cs) ≡ true → (list_any (may_load s key tag n i) cs ≡ true → (s.owed ≡ Free → ⊥)) → (s.owed ≡ Free → ⊥)
    by true at all rest = writes_owed s.owed c.number (three (is_writing s.owed c.number) (is_at_body c) (is_some_with (λ x. may_load_at s x key tag n i) (next_of s c)) at)
    by false at all rest = rest all

load_so : (key tag : Bytes) (n i : ℕ) (s : State) → (is_at_rest s && list_any (may_load s key tag n i) s.clients) ≡ true → Inv s → InPhase s → InPhase (load key i s)
unfolding load load_from
load_so key tag n i s is inv now = by (row s key) (kept_row s key)
  where
    h : Holds (Enough Handling) s
    h = known_at Handling s (works_now s inv (some_writes s key tag n i s.clients (second_holds (is_at_rest s) (list_any (may_load s key tag n i) s.clients) is))) now

    by : (o : Option Instance) (e : Option Entry) → InPhase (elim o as (λ c. State) [ None ↦ s | Some x ↦ elim e as (λ c. State) [ None ↦ s | Some e ↦ load_from x e i s ] ])
    by None e = now
    by (Some x) None = now
    by (Some x) (Some e) = record { phase = Handling; held = enough_noted Handling (put_chunk x.id i (chunk_in_file s e i) s.chunks) s refl h }

-- ---- all

-- no chunk is used yet
none_yet : (s : State) → Inv s → is_at IsWoken s ≡ true → length s.chunks ≤ 0
none_yet s (inl q) at = le_trans (facts_of q.held).few (q.none_yet (ap is_early (sym (at_quiet q) ∙ at_this IsWoken s.phase at refl)))
none_yet s (inr l) at = let both : true ≡ false = sym at ∙ ap (is_same_phase IsWoken) (facts_of l.held).at in absurd (cc both)

noted_so : (s : State) (r : Remark) → permits_noted s r ≡ true → Inv s → Turns s → InPhase (noted r s)
unfolding noted
noted_so s (Taken c i d) is inv turns = record { phase = Deciding; held = take_decision_so c d _ Deciding (decided_at (λ t. may_take t c i d) s is turns) }
noted_so s (Cut c cause) is inv turns = record { phase = Deciding; held = close_client-keeps (enough_walk Deciding) c true _ (decided_at (λ t. may_cut t c cause) s is turns) }
noted_so s (Kept key tag n extent) is inv turns = stays _ (λ p h. note_kept-keeps key extent s h) turns.now
noted_so s (Gone key) is inv turns = stays _ (λ p h. note_gone-keeps key _ h) (come_to_turns Keeping s turns).now
noted_so s (Forgotten key) is inv turns = forgotten_so key s turns
noted_so s (Evicted key tag n i) is inv turns = stays _ (evicted_so _) (come_to_turns Evicting s turns).now
noted_so s (WasLoaded key tag n i) is inv turns = load_so key tag n i s is inv turns.now

changed_so : (s : State) (h : Happening) → permits s h ≡ true → Inv s → Turns s → InPhase (changed s h)
unfolding permits changed unread
changed_so s (Woke image) is inv turns = woken_so image s
changed_so s (Waits w) is inv turns = waits_so w s may turns
  where
    of : (t : Bool) → (elim t as (λ c. Bool) [ true ↦ is_served (ending s) w | false ↦ false ]) ≡ true → t ≡ true
    of true at = refl
    of false at = absurd (cc at)

    may : may_wait s ≡ true
    may = of (may_wait s) is
changed_so s (Clock seconds) is inv turns = event_so _ (stays (tick seconds s) (λ p h. tick-keeps (enough_walk p) seconds s h) turns.now)
changed_so s (Opened n) is inv turns = event_so _ (stays (opened n s) (opened_so n s) turns.now)
changed_so s (CanRead n) is inv turns = event_so _ (stays (owing (ReadOf n) n s) (owing_so (ReadOf n) n s) turns.now)
changed_so s (CanWrite n) is inv turns = event_so _ (stays (owing (WriteTo n) n s) (owing_so (WriteTo n) n s) turns.now)
changed_so s (Heard c bytes) is inv turns = paid_so _ (stays _ (λ p h. hear-keeps (enough_walk p) c bytes s h) turns.now)
changed_so s (HungUp c) is inv turns = paid_so _ (stays _ (λ p h. hang_up-keeps (enough_walk p) c s h) turns.now)
changed_so s (Said c offered bytes) is inv turns = paid_so _ (stays _ (said_so c (length bytes) s) turns.now)
changed_so s (Shut c) is inv turns = stays _ (shut_so c _) (come_to_turns Connecting s turns).now
changed_so s (Dialled n host port) is inv turns = stays _ (dialled_so n host port _) (come_to_turns Connecting s turns).now
changed_so s (Undialled host port) is inv turns = stays _ (undialled_so _) (come_to_turns Connecting s turns).now
changed_so s (Reached n) is inv turns = event_so _ (stays (reached n s) (reached_so n s) turns.now)
changed_so s (Ended n) is inv turns = paid_so _ (stays _ (gone_so true n s) turns.now)
changed_so s (Broke n) is inv turns = paid_so _ (stays _ (gone_so false n _) (event_so s turns.now))
changed_so s (Asked n bytes) is inv turns = paid_so _ (stays _ (λ p h. ask-keeps (enough_walk p) n (length bytes) s h) turns.now)
changed_so s (Got n bytes) is inv turns = got_so n bytes s is inv turns.now
changed_so s (Dropped n) is inv turns = stays _ (dropped_so n _) (come_to_turns Connecting s turns).now
changed_so s (NoneYet n) is inv turns = paid_so s turns.now
changed_so s (Began op) is inv turns = begun_op_so op s turns
changed_so s (Did op ok) is inv turns = stays _ (ended_op_so op ok s) turns.now
changed_so s (Unread name) is inv turns = paid_so _ (stays _ (unread_so name s) turns.now)
changed_so s (Noted remark) is inv turns = noted_so s remark is inv turns
changed_so s (Rooted folder) is inv turns = opened_to_so IsConfigured IsRooted true s (first_holds (is_at IsConfigured s) (bytes_eq folder s.settings.root) is) refl refl turns.now
changed_so s (Listed ok) is inv turns = opened_to_so IsRooted IsListed ok s (first_holds (is_at IsRooted s) (may_fail s ok) is) refl refl turns.now
changed_so s (Listens port ok) is inv turns = opened_to_so IsListed IsListening ok s (three (is_at IsListed s) (port == s.settings.port) (is_recovered s) (first_holds (permits_listens s port) (may_fail s ok) is)) refl refl turns.now
changed_so s (Configured file text) is inv turns = configured_so text s at (none_yet s inv at) turns.now
  where
    at : is_at IsWoken s ≡ true
    at = first_holds (is_at IsWoken s) (is_some_with (λ named. bytes_eq named file) (file_of s.term.words)) (first_holds (permits_configured s file) (may_fail s (is_some text)) is)
changed_so s (Printed text) is inv turns = turns.now
changed_so s Stopped is inv turns = event_so _ (stays (record s { is_stopped = true }) (λ p h. holds (facts_of h)) turns.now)

-- ---- along a log

abbrev Both : State → Type 0
Both s = Inv s × InPhase s

apart_of : (s : State) → Inv s → AreApart s.chunks
apart_of s (inl q) = (facts_of q.held).apart
apart_of s (inr l) = (facts_of l.held).apart

turns_of : (s : State) → HasFewPins s → Both s → Turns s
turns_of s few both = record { now = both.1; pins = λ busy. few; apart = λ busy. apart_of s both.0 }

first_both : (terms : List Term) → Both (start terms)
first_both terms = (
  inl (rests defaults Before 0 (start terms) (omega arith) zero-le (λ is. absurd (cc is)) (holds (record { set = refl; at = refl; owes = refl; few = le_refl 0; apart = tt; near = inr zero-le; going = λ k x i. absurd i; unread = λ k i. absurd i; lined = λ n most k is. absurd (cc is) }))),
  record { phase = Before; held = holds (refl, (first_high, inr (inr zero-le))) },
)

steps_both : Steps Both
steps_both terms front h next both =
    let s : State = state_after terms front in
    let pinned : HasFewPins s = few_pins terms front (h ∷ []) next.lawful in (
      after_inv s h next.permitted pinned (short_lines terms front (h ∷ []) next.lawful)
          (after_all-sound (start terms) front refl (λ counts. absurd (cc counts)) (front_from (start terms) front (h ∷ []) next.lawful) (start-sound from_now terms refl)) both.0,
      changed_so s h (permitted_wide s h next.permitted) both.0 (turns_of s pinned both),
    )

whole : (terms : List Term) (log : Log) → Lawful terms log → Lawful terms (log ++ [])
whole terms log lawful = subst (λ (l : Log). Lawful terms l) (sym (append-nil log)) lawful

-- where an event is awaited
pub waits_leave_enough : (terms : List Term) (s : State) (log : Log) → Obeys terms s log → s.phase ≡ Awaiting → IsEnough s.settings (length s.chunks)
waits_leave_enough terms s log obeys at = enough_now Awaiting s refl (known_at Awaiting s at there.now)
  where
    there : Turns s
    there = obeying Turns (λ t done turns. next_turns t done turns) terms s log obeys (turns_of (state_after terms log) (few_pins terms log [] (whole terms log obeys.lawful)) (along Both first_both steps_both terms log [] (whole terms log obeys.lawful)))
