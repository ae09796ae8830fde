-- What a permitted happening leaves: what is owed, the disk, the failures and how the life was started.
use Rattle.std.proofs.Common.{◌≡◌, ◌⊎◌, refl, ℕ, ◌+◌, Bool, true, false, not, ◌&&◌, ◌||◌, ◌==◌, List, [], ◌∷◌, ◌++◌, length, drop, find, Option, Some, None, is_some, inl, inr, sym, ap, ◌∙◌}
use Rattle.std.specs.List.{list_any}
use Rattle.std.specs.Prelude.{bytes_eq}
use Rattle.pp_conf.specs.Conf.{Settings}
use Rattle.pp_conf.specs.Words.{file_of, reading_of}
use Rattle.pp_text.specs.Bytes.{is_empty}
use Rattle.pp_world.specs.Files.{Files}
use Rattle.pp_world.specs.declared.event.Wants.{Wants}
use Rattle.pp_world.specs.declared.happening.Happening.{Happening}
use Rattle.pp_world.specs.declared.happening.Happening.TheVariants.{Woke, Waits, Clock, Opened, CanRead, CanWrite, Heard, HungUp, Said, Shut, Dialled, Undialled, Reached, Ended, Broke, Asked, Got, Dropped, NoneYet, Began, Did, Unread, Noted, Rooted, Listed, Listens, Configured, Printed, Stopped}
use Rattle.pp_world.specs.declared.note.Cause.{Cause}
use Rattle.pp_world.specs.declared.note.Decision.{Decision}
use Rattle.pp_world.specs.declared.note.Remark.{Remark}
use Rattle.pp_world.specs.declared.note.Remark.TheVariants.{Taken, Cut, Kept, Gone, Forgotten, Evicted, Loaded}
use Rattle.pp_world.specs.declared.op.DiskOp.{DiskOp}
use Rattle.pp_law.specs.After.{after, begun_op, changed, dialled, dropped, ended_op, event, forgotten_by, leave_memory, new_conn, noted, opened, out, owing, paid, refused_dial, take_decision, undialled, unread}
use Rattle.pp_law.specs.Asking.{is_reading, is_writing, is_read, read_limit}
use Rattle.pp_law.specs.Chunks.{note_use}
use Rattle.pp_law.specs.Followers.{fill}
use Rattle.pp_law.specs.Connections.{client, conn, end_exchange, lose_attempt, may_ask_again, on_client, on_conn, on_exchange, placing, put_on, Placement, Pause, AllPlaced, WaitsDial, WaitsDrop}
use Rattle.pp_law.specs.Deciding.{decided}
use Rattle.pp_law.specs.Due.{decides_for, first_due}
use Rattle.pp_law.specs.Leaving.{Leaving, ForAnother, ForMemory, BeforeDecision, leaving_as}
use Rattle.pp_law.specs.Lists.{Bytes, is_some_with}
use Rattle.pp_law.specs.Opening.{are_texts, begun, configured, is_at, is_opening, is_recovered, is_same_phase, lose_in_opening, may_fail, names_file, opened_to, settings_in, stuck, with_settings, woken}
use Rattle.pp_law.specs.Permits.{has_conn, is_dial_of, is_new_number, is_owed, may_cut, may_dial, may_drop, may_shut, may_take, permits}
use Rattle.pp_law.specs.Phases.{phases, come, come_to, come_to_decide, decides, deciding, ending, has_closings, in_phase, is_done, may_end, may_in}
use Rattle.pp_law.specs.Replies.{regained}
use Rattle.pp_law.specs.Repairs.{begin_in_opening, may_begin_in_opening, agenda_in_opening}
use Rattle.pp_law.specs.Served.{is_served}
use Rattle.pp_law.specs.State.{State, Agenda, Client, Conn, Entry, Exchange, Instance, Phase, Before, IsWoken, IsConfigured, IsRooted, IsListed, IsListening, IsStuck, Awaiting, Handling, Evicting, Keeping, Deciding, Following, Connecting, DecidingAgain, Owed, ReadOf, WriteTo, Todo, Do, Enter, Acknowledge}
use Rattle.pp_law.specs.Store.{agenda_in_turn, begin_in_turn, begin_op, close_name, end_op, enter_next, fail_op, is_acknowledged_as, is_at_rest, is_idle_disk, is_of_draft, is_same_op, load, load_from, lose_draft, lose_entry, left_todo, may_begin_in_turn, may_end_op, may_note_gone, note_gone, note_kept, remove_entry}
use Rattle.pp_law.specs.Table.{forget, is_entry_of, kept_row, row}
use Rattle.pp_law.specs.Turn.{rest_with, touch}
use Rattle.pp_laws.proofs.Tests.{first_holds, second_holds}
use Rattle.pp_obeys.specs.Failures.{GoesOnIn, counted, fails, wakes}
use Rattle.pp_obeys.proofs.Come.{skip}
use Rattle.pp_obeys.proofs.Frames.{Frame, frame, Stays, frame_of, stays}
use Rattle.pp_obeys.proofs.Settled.{AtRest, Settled, at_phase, come_at, come_to-settled, come_to_decide-settled, owed_owes, quiet_as, quiet_at, quiet_by, quiet_decides, quiet_in, reading_owes, rest_as, rest_owing, rest_so, settled_as, settled_quiet, settled_working, working, works, writing_owes}
use Rattle.pp_obeys.proofs.Silent.{IsQuiet}
use Rattle.pp_obeys.proofs.StaysAsks.{decided-stays, fill-stays}
use Rattle.pp_obeys.proofs.StaysResponses.{got-stays}
use Rattle.pp_obeys.proofs.StaysTable.{close_client-stays, end_exchange-stays, forget-stays, lose_attempt-stays}
use Rattle.pp_obeys.proofs.StaysTurns.{ask-stays, come_to-frame, come_to_decide-frame, deciding-frame, end_replies-stays, ending-frame, evicted-stays, gone-stays, hang_up-stays, hear-stays, out-stays, placing-frame, reached-stays, refused_row-stays, said-stays, shut-stays, tick-frame, unphased, untimed}

-- ---- the same life

abbrev pub SameLife : State → State → Type 0
SameLife s t = GoesOnIn s t false

life_as : {s t : State} → frame false t ≡ frame false s → SameLife s t
life_as same = record { failures = ap (λ (o : Frame). o.failures) same; term = ap (λ (o : Frame). o.term) same }

life_moved : {s t : State} → unphased (frame false t) ≡ unphased (frame false s) → SameLife s t
life_moved same = record { failures = ap (λ (o : Frame). o.failures) same; term = ap (λ (o : Frame). o.term) same }

life_timed : {s t : State} → untimed (frame false t) ≡ untimed (frame false s) → SameLife s t
life_timed same = record { failures = ap (λ (o : Frame). o.failures) same; term = ap (λ (o : Frame). o.term) same }

life_then : {s t u : State} {failed : Bool} → SameLife s t → GoesOnIn t u failed → GoesOnIn s u failed
life_then {s} {t} {u} {failed} one two = record { failures = two.failures ∙ ap (counted failed) one.failures; term = two.term ∙ one.term }

life_on : {s t u : State} {failed : Bool} → GoesOnIn s t failed → SameLife t u → GoesOnIn s u failed
life_on one two = record { failures = two.failures ∙ one.failures; term = two.term ∙ one.term }

same_life : (s : State) → SameLife s s
same_life s = record { failures = refl; term = refl }

-- ---- what is left

pub record Step (s t : State) (failed : Bool) : Type 0 where
  pub settled : Settled t
  pub life : GoesOnIn s t failed

quiet_step : {s t : State} {failed : Bool} → IsQuiet t → GoesOnIn s t failed → Step s t failed
quiet_step q life = record { settled = settled_quiet q; life = life }

same_step : {s t : State} → frame false t ≡ frame false s → Settled s → Step s t false
same_step same h = record { settled = settled_as same h; life = life_as same }

paid_quiet : (x : State) → AtRest x → IsQuiet (paid x)
unfolding paid regained
paid_quiet x r = record { free = refl; idle = r.idle; nothing = r.nothing }

paid_life : (x : State) → SameLife x (paid x)
unfolding paid regained
paid_life x = record { failures = refl; term = refl }

paid_step : {s x : State} {failed : Bool} → AtRest x → GoesOnIn s x failed → Step s (paid x) failed
paid_step {s} {x} r life = quiet_step (paid_quiet x r) (life_on life (paid_life x))

event_settled : (x : State) → AtRest x → Settled (event x)
unfolding event regained
event_settled x r = record { free = λ isnt. absurd (cc isnt); rests = λ isnt. record { idle = r.idle; nothing = r.nothing } }

event_rest : (x : State) → AtRest x → AtRest (event x)
unfolding event regained
event_rest x r = record { idle = r.idle; nothing = r.nothing }

event_life : (x : State) → SameLife x (event x)
unfolding event regained
event_life x = record { failures = refl; term = refl }

event_step : {s x : State} → AtRest x → SameLife s x → Step s (event x) false
event_step {s} {x} r life = record { settled = event_settled x r; life = life_on life (event_life x) }

same : (x y : State) → Stays false (frame false x) y → frame false y ≡ frame false x
same x y h = frame_of h

in_so : (t holds : Bool) → (elim t as (λ c. Bool) [ true ↦ holds | false ↦ false ]) ≡ true → t ≡ true
in_so true holds is = refl
in_so false holds is = absurd (cc is)

-- ---- waits and events

awaited : (s : State) → is_at Awaiting s ≡ true → Settled s → AtRest s
awaited s is h = let q = quiet_at Awaiting s (at_phase Awaiting s is) refl refl h in record { idle = q.idle; nothing = q.nothing }

moved_rest : (s t : State) → unphased (frame false t) ≡ unphased (frame false s) → AtRest s → AtRest t
moved_rest s t is r = record { idle = ap (λ (o : Frame). o.under_way) is ∙ r.idle; nothing = ap (λ (o : Frame). o.agenda.todo) is ∙ r.nothing }

rested : (w : Wants) (x : State) → AtRest x → IsQuiet (rest_with w x)
unfolding rest_with
rested w x r = record { free = refl; idle = r.idle; nothing = r.nothing }

rested_life : (w : Wants) (x : State) → SameLife x (rest_with w x)
unfolding rest_with
rested_life w x = record { failures = refl; term = refl }

end_rest : (s : State) → is_at DecidingAgain (come_to DecidingAgain s) ≡ true → Settled s → AtRest (ending s)
end_rest s is h =
    let q = quiet_at DecidingAgain (come_to DecidingAgain s) (at_phase DecidingAgain (come_to DecidingAgain s) is) refl refl (come_to-settled DecidingAgain s h) in
    moved_rest s (ending s) (ending-frame false s) (moved_rest (come_to DecidingAgain s) s (sym (come_to-frame false DecidingAgain s)) (record { idle = q.idle; nothing = q.nothing }))

waits_by : (s : State) (listening : Bool) → is_at IsListening s ≡ listening → (listening || (not s.is_stopped && may_end s)) ≡ true → Settled s → AtRest (ending s)
waits_by s true is may h = let q = quiet_at IsListening s (at_phase IsListening s is) refl refl h in moved_rest s (ending s) (ending-frame false s) (record { idle = q.idle; nothing = q.nothing })
waits_by s false isnt may h = end_rest s (in_so (is_at DecidingAgain (come_to DecidingAgain s)) (is_done (come_to DecidingAgain s)) (second_holds (not s.is_stopped) _ may)) h

waits_step : (s : State) (w : Wants) → permits s (Waits w) ≡ true → Settled s → Step s (after s (Waits w)) false
unfolding permits changed
waits_step s w may h =
    quiet_step
    (rested w (ending s) (waits_by s (is_at IsListening s) refl (in_so (is_at IsListening s || (not s.is_stopped && may_end s)) (is_served (ending s) w) may) h))
    (life_on (life_moved (ending-frame false s)) (rested_life w (ending s)))

timed_rest : {s t : State} → untimed (frame false t) ≡ untimed (frame false s) → AtRest s → AtRest t
timed_rest is r = record { idle = ap (λ (o : Frame). o.under_way) is ∙ r.idle; nothing = ap (λ (o : Frame). o.agenda.todo) is ∙ r.nothing }

clock_step : (s : State) (seconds : ℕ) → permits s (Clock seconds) ≡ true → Settled s → Step s (after s (Clock seconds)) false
unfolding permits changed
clock_step s seconds may h = event_step (timed_rest (tick-frame false seconds s) (awaited s may h)) (life_timed (tick-frame false seconds s))

opened_step : (s : State) (n : ℕ) → permits s (Opened n) ≡ true → Settled s → Step s (after s (Opened n)) false
unfolding permits changed opened
opened_step s n may h =
    let r = awaited s (first_holds (is_at Awaiting s) _ may) h in event_step (record { idle = r.idle; nothing = r.nothing }) (record { failures = refl; term = refl })

owing_step : (s : State) (owed : Owed) (n : ℕ) → is_at Awaiting s ≡ true → Settled s → Step s (event (owing owed n s)) false
unfolding owing touch on_conn on_client
owing_step s owed n may h = let r = awaited s may h in event_step (record { idle = r.idle; nothing = r.nothing }) (record { failures = refl; term = refl })

reached_step : (s : State) (k : ℕ) → permits s (Reached k) ≡ true → Settled s → Step s (after s (Reached k)) false
unfolding permits changed
reached_step s k may h =
    let is = same s _ (reached-stays k s (stays refl)) in event_step (rest_as is (awaited s (first_holds (is_at Awaiting s) _ may) h)) (life_as is)

stopped_step : (s : State) → permits s Stopped ≡ true → Settled s → Step s (after s Stopped) false
unfolding permits changed
stopped_step s may h = let r = awaited s may h in event_step (record { idle = r.idle; nothing = r.nothing }) (record { failures = refl; term = refl })

-- ---- reads and writes

heard_step : (s : State) (c : ℕ) (bytes : Bytes) → permits s (Heard c bytes) ≡ true → Settled s → Step s (after s (Heard c bytes)) false
unfolding permits changed
heard_step s c bytes may h =
    let is = same s _ (hear-stays c bytes s (stays refl)) in
    let reads = first_holds (is_reading s.owed c) _ (first_holds (is_reading s.owed c && is_read read_limit bytes) _ may) in
    paid_step (rest_as is (rest_owing s (reading_owes s.owed c reads) h)) (life_as is)

hung_up_step : (s : State) (c : ℕ) → permits s (HungUp c) ≡ true → Settled s → Step s (after s (HungUp c)) false
unfolding permits changed
hung_up_step s c may h =
    let is = same s _ (hang_up-stays c s (stays refl)) in paid_step (rest_as is (rest_owing s (owed_owes s.owed c (first_holds (is_owed s c) _ may)) h)) (life_as is)

said_step : (s : State) (c offered : ℕ) (bytes : Bytes) → permits s (Said c offered bytes) ≡ true → Settled s → Step s (after s (Said c offered bytes)) false
unfolding permits changed
said_step s c offered bytes may h =
    let is = same s _ (said-stays c (length bytes) s (stays refl)) in paid_step (rest_as is (rest_owing s (writing_owes s.owed c (first_holds (is_writing s.owed c) _ may)) h)) (life_as is)

ended_step : (s : State) (k : ℕ) → permits s (Ended k) ≡ true → Settled s → Step s (after s (Ended k)) false
unfolding permits changed
ended_step s k may h =
    let is = same s _ (gone-stays true k s (stays refl)) in paid_step (rest_as is (rest_owing s (reading_owes s.owed k (first_holds (is_reading s.owed k) _ may)) h)) (life_as is)

broke_rest : (s : State) (k : ℕ) (t : Bool) → is_at Awaiting s ≡ t → (t || is_owed s k) ≡ true → Settled s → AtRest s
broke_rest s k true is may h = awaited s is h
broke_rest s k false isnt may h = rest_owing s (owed_owes s.owed k may) h

broke_step : (s : State) (k : ℕ) → permits s (Broke k) ≡ true → Settled s → Step s (after s (Broke k)) false
unfolding permits changed
broke_step s k may h =
    let is = same (event s) _ (gone-stays false k (event s) (stays refl)) in
    let r = broke_rest s k (is_at Awaiting s) refl (second_holds (has_conn s k) _ may) h in
    paid_step (rest_as is (event_rest s r)) (life_then (event_life s) (life_as is))

asked_step : (s : State) (k : ℕ) (bytes : Bytes) → permits s (Asked k bytes) ≡ true → Settled s → Step s (after s (Asked k bytes)) false
unfolding permits changed
asked_step s k bytes may h =
    let is = same s _ (ask-stays k (length bytes) s (stays refl)) in paid_step (rest_as is (rest_owing s (writing_owes s.owed k (first_holds (is_writing s.owed k) _ may)) h)) (life_as is)

got_step : (s : State) (k : ℕ) (bytes : Bytes) → permits s (Got k bytes) ≡ true → Settled s → Step s (after s (Got k bytes)) false
unfolding permits changed
got_step s k bytes may h =
    let is = same s _ (end_replies-stays _ (got-stays (length bytes) k bytes s (stays refl))) in
    paid_step (rest_as is (rest_owing s (reading_owes s.owed k (first_holds (is_reading s.owed k) _ may)) h)) (life_as is)

none_yet_step : (s : State) (n : ℕ) → permits s (NoneYet n) ≡ true → Settled s → Step s (after s (NoneYet n)) false
unfolding permits changed
none_yet_step s n may h = paid_step (rest_owing s (reading_owes s.owed n may) h) (same_life s)

-- ---- decisions, and rows and chunks that leave

deciding_quiet : (s : State) (test : State → Bool) → (elim (decides (come_to_decide s)) as (λ c. Bool) [ true ↦ test (come_to_decide s) | false ↦ false ]) ≡ true → Settled s → IsQuiet (deciding s)
unfolding deciding
deciding_quiet s test may h = let q = quiet_decides test s may h in record { free = q.free; idle = q.idle; nothing = q.nothing }

deciding_life : (s : State) → SameLife s (deciding s)
deciding_life s = life_moved (deciding-frame false s)

take_step : (n : ℕ) (d : Decision) (s : State) → IsQuiet s → Step s (take_decision n d s) false
unfolding take_decision regained
take_step n d s q = by (client s n)
  where
    each : (c : Client) → Step s (regained (record (decided c d s) { forgotten = []; has_made_room = None })) false
    each c =
        let is : frame false (decided c d s) ≡ frame false s = same s (decided c d s) (decided-stays c d s (stays refl)) in
        let r : IsQuiet (decided c d s) = quiet_as is q in
        let l : SameLife s (decided c d s) = life_as is in
        quiet_step (record { free = r.free; idle = r.idle; nothing = r.nothing }) (record { failures = l.failures; term = l.term })

    by : (o : Option Client) → Step s (elim o as (λ x. State) [ None ↦ s | Some c ↦ regained (record (decided c d s) { forgotten = []; has_made_room = None }) ]) false
    by None = quiet_step q (same_life s)
    by (Some c) = each c

then_step : {s t u : State} {failed : Bool} → SameLife s t → Step t u failed → Step s u failed
then_step one two = record { settled = two.settled; life = life_then one two.life }

taken_step : (s : State) (c i : ℕ) (d : Decision) → permits s (Noted (Taken c i d)) ≡ true → Settled s → Step s (after s (Noted (Taken c i d))) false
unfolding permits changed noted
taken_step s c i d may h = then_step (deciding_life s) (take_step c d (deciding s) (deciding_quiet s (λ t. may_take t c i d) may h))

cut_step : (s : State) (c : ℕ) (cause : Cause) → permits s (Noted (Cut c cause)) ≡ true → Settled s → Step s (after s (Noted (Cut c cause))) false
unfolding permits changed noted
cut_step s c cause may h =
    let is = same (deciding s) _ (close_client-stays c true (deciding s) (stays refl)) in
    then_step (deciding_life s) (quiet_step (quiet_as is (deciding_quiet s (λ t. may_cut t c cause) may h)) (life_as is))

moved_step : {s u t : State} → unphased (frame false u) ≡ unphased (frame false s) → frame false t ≡ frame false u → Settled u → Step s t false
moved_step on is h = then_step (life_moved on) (same_step is h)

evicted_step : (s : State) (key tag : Bytes) (n i : ℕ) → Settled s → Step s (after s (Noted (Evicted key tag n i))) false
unfolding changed noted
evicted_step s key tag n i h = moved_step (come_to-frame false Evicting s) (same (come_to Evicting s) _ (evicted-stays (come_to Evicting s) (stays refl))) (come_to-settled Evicting s h)

left_step : (s u : State) → unphased (frame false u) ≡ unphased (frame false s) → Settled u → Step s (record u { forgotten = drop 1 u.forgotten }) false
left_step s u on h =
    let moved : SameLife s u = life_moved on in
    then_step moved (record {
      settled = record { free = h.free; rests = λ isnt. let r = h.rests isnt in record { idle = r.idle; nothing = r.nothing } };
      life = record { failures = refl; term = refl };
    })

leave_step : (s : State) (how : Leaving) → Settled s → Step s (leave_memory how s) false
unfolding leave_memory
leave_step s ForAnother h = left_step s (come_to Evicting s) (come_to-frame false Evicting s) (come_to-settled Evicting s h)
leave_step s (ForMemory x) h = moved_step (come_to-frame false Evicting s) (same (come_to Evicting s) _ (refused_row-stays x (come_to Evicting s) (stays refl))) (come_to-settled Evicting s h)
leave_step s (BeforeDecision x) h = made_room (come_to_decide s) (come_to_decide-frame false s) (come_to_decide-settled s h)
  where
    made_room : (u : State) → unphased (frame false u) ≡ unphased (frame false s) → Settled u → Step s (record (forget x.id u) { has_made_room = decides_for (first_due u) }) false
    made_room u on hu =
        let is : frame false (forget x.id u) ≡ frame false u = same u (forget x.id u) (forget-stays x.id u (stays refl)) in
        let settled : Settled (forget x.id u) = settled_as is hu in
        let life : SameLife u (forget x.id u) = life_as is in
        let moved : SameLife s u = life_moved on in
        then_step moved (record {
          settled = record { free = settled.free; rests = λ isnt. let r = settled.rests isnt in record { idle = r.idle; nothing = r.nothing } };
          life = record { failures = life.failures; term = life.term };
        })

forgotten_step : (s : State) (key : Bytes) → Settled s → Step s (after s (Noted (Forgotten key))) false
unfolding changed noted forgotten_by
forgotten_step s key h = by (leaving_as s key)
  where
    by : (o : Option Leaving) → Step s (elim o as (λ c. State) [ None ↦ s | Some how ↦ leave_memory how s ]) false
    by None = record { settled = h; life = same_life s }
    by (Some how) = leave_step s how h

-- ---- closings and places

connected : (s : State) (test : State → Bool) → may_in Connecting test s ≡ true → Settled s → IsQuiet (come_to Connecting s)
connected s test may h = quiet_in Connecting test s refl refl may h

connecting_life : (s : State) → SameLife s (come_to Connecting s)
connecting_life s = life_moved (come_to-frame false Connecting s)

shut_step : (s : State) (n : ℕ) → permits s (Shut n) ≡ true → Settled s → Step s (after s (Shut n)) false
unfolding permits changed
shut_step s n may h =
    let is = same (come_to Connecting s) _ (shut-stays n (come_to Connecting s) (stays refl)) in
    then_step (connecting_life s) (quiet_step (quiet_as is (connected s (λ t. list_any (may_shut t n) t.clients) may h)) (life_as is))

placed_quiet : (u : State) → IsQuiet u → IsQuiet (placing u).state
placed_quiet u q = quiet_as (placing-frame false u) q

placed_life : (u : State) → SameLife u (placing u).state
placed_life u = life_as (placing-frame false u)

dial_step : (n : ℕ) (host : Bytes) (port : ℕ) (p : Placement) → IsQuiet p.state → Step p.state (dialled n host port p) false
unfolding dialled put_on on_conn on_exchange
dial_step n host port p q = by p.pause
  where
    by : (pause : Pause) → Step p.state (elim pause as (λ c. State) [
      | AllPlaced ↦ p.state
      | WaitsDrop k e ↦ p.state
      | WaitsDial e ↦ put_on e.number n (record p.state { conns = p.state.conns ++ new_conn n host port p.state.clock ∷ []; top = n })
    ]) false
    by AllPlaced = quiet_step q (same_life p.state)
    by (WaitsDrop k e) = quiet_step q (same_life p.state)
    by (WaitsDial e) = quiet_step (record { free = q.free; idle = q.idle; nothing = q.nothing }) (record { failures = refl; term = refl })

dialled_step : (s : State) (n : ℕ) (host : Bytes) (port : ℕ) → permits s (Dialled n host port) ≡ true → Settled s → Step s (after s (Dialled n host port)) false
unfolding permits changed
dialled_step s n host port may h =
    let q = connected s (λ t. may_dial t host port) (second_holds (is_new_number s n) _ may) h in
    then_step (connecting_life s) (then_step (placed_life (come_to Connecting s)) (dial_step n host port (placing (come_to Connecting s)) (placed_quiet (come_to Connecting s) q)))

refused_step : (e : Exchange) (s : State) → IsQuiet s → Step s (refused_dial e s) false
unfolding refused_dial
refused_step e s q = by (may_ask_again s e.number)
  where
    is : frame false (fill (end_exchange e.number s)) ≡ frame false s
    is = same s _ (fill-stays _ (end_exchange-stays e.number s (stays refl)))

    over : Step s (fill (end_exchange e.number s)) false
    over = quiet_step (quiet_as is q) (life_as is)

    by : (again : Bool) → Step s (elim again as (λ c. State) [ true ↦ s | false ↦ fill (end_exchange e.number s) ]) false
    by true = quiet_step q (same_life s)
    by false = over

lost_step : (e : Exchange) (s : State) → IsQuiet s → Step s (refused_dial e (lose_attempt e (record s { failures = s.failures + 1 }))) true
lost_step e s q =
    let u : State = record s { failures = s.failures + 1 } in
    let is = same u _ (lose_attempt-stays e u (stays refl)) in
    let quiet : IsQuiet u = record { free = q.free; idle = q.idle; nothing = q.nothing } in
    let one : GoesOnIn s u true = record { failures = refl; term = refl } in
    let two = refused_step e (lose_attempt e u) (quiet_as is quiet) in
    record { settled = two.settled; life = life_on (life_on one (life_as is)) two.life }

undial_by : (p : Placement) (host : Bytes) (port : ℕ) (pause : Pause) → is_dial_of pause host port ≡ true → IsQuiet p.state → Step p.state (elim pause as (λ c. State) [
  | AllPlaced ↦ p.state
  | WaitsDrop k e ↦ p.state
  | WaitsDial e ↦ refused_dial e (lose_attempt e (record p.state { failures = p.state.failures + 1 }))
]) true
undial_by p host port AllPlaced may q = absurd (cc may)
undial_by p host port (WaitsDrop k e) may q = absurd (cc may)
undial_by p host port (WaitsDial e) may q = lost_step e p.state q

test_so : (p : Phase) (test : State → Bool) (s : State) → may_in p test s ≡ true → test (come_to p s) ≡ true
test_so p test s may = by (is_at p (come_to p s)) may
  where
    by : (at : Bool) → (elim at as (λ c. Bool) [ true ↦ test (come_to p s) | false ↦ false ]) ≡ true → test (come_to p s) ≡ true
    by true is = is
    by false is = absurd (cc is)

undialled_step : (s : State) (host : Bytes) (port : ℕ) → permits s (Undialled host port) ≡ true → Settled s → Step s (after s (Undialled host port)) true
unfolding permits changed undialled
undialled_step s host port may h =
    let dials = second_holds (may_fail s false) _ may in
    let u : State = come_to Connecting s in
    let q = connected s (λ t. may_dial t host port) dials h in
    let due = second_holds (not u.is_stopped && not (has_closings u)) _ (test_so Connecting (λ t. may_dial t host port) s dials) in
    then_step (connecting_life s) (then_step (placed_life u) (undial_by (placing u) host port (placing u).pause due (placed_quiet u q)))

drop_step : (n : ℕ) (s : State) → IsQuiet s → Step s (dropped n s) false
unfolding dropped
drop_step n s q = by (conn s n)
  where
    outside : (t : State) → IsQuiet t → Step t (out n t) false
    outside t qt = let is = same t _ (out-stays n t (stays refl)) in quiet_step (quiet_as is qt) (life_as is)

    when : (closing : Bool) → Step s (elim closing as (λ c. State) [ true ↦ out n s | false ↦ out n (placing s).state ]) false
    when true = outside s q
    when false = then_step (placed_life s) (outside (placing s).state (placed_quiet s q))

    by : (o : Option Conn) → Step s (elim o as (λ c. State) [ None ↦ s | Some k ↦ elim k.is_closing as (λ c. State) [ true ↦ out n s | false ↦ out n (placing s).state ] ]) false
    by None = quiet_step q (same_life s)
    by (Some k) = when k.is_closing

dropped_step : (s : State) (n : ℕ) → permits s (Dropped n) ≡ true → Settled s → Step s (after s (Dropped n)) false
unfolding permits changed
dropped_step s n may h = then_step (connecting_life s) (drop_step n (come_to Connecting s) (connected s (λ t. may_drop t n) may h))

-- ---- the disk

-- in the same phase, with the same owed
record SamePlace (s t : State) (failed : Bool) : Type 0 where
  at : t.phase ≡ s.phase
  owed : t.owed ≡ s.owed
  life : GoesOnIn s t failed

same_place : (s : State) → SamePlace s s false
same_place s = record { at = refl; owed = refl; life = same_life s }

place_on : {s t u : State} {failed : Bool} → SamePlace s t failed → SamePlace t u false → SamePlace s u failed
place_on one two = record { at = two.at ∙ one.at; owed = two.owed ∙ one.owed; life = life_on one.life two.life }

busy_step : {s t : State} {failed : Bool} → works s.phase ≡ true → SamePlace s t failed → Settled s → Step s t failed
busy_step {s} {t} busy p h = record { settled = settled_working s t (ap works p.at ∙ busy) p.at p.owed h; life = p.life }

kept_step : (s : State) (key tag : Bytes) (n extent : ℕ) → permits s (Noted (Kept key tag n extent)) ≡ true → Settled s → Step s (after s (Noted (Kept key tag n extent))) false
unfolding permits changed noted note_kept
kept_step s key tag n extent may h = busy_step (working s busy h) (record { at = refl; owed = refl; life = record { failures = refl; term = refl } }) h
  where
    busy : AtRest s → ⊥
    busy r = let both : true ≡ false = sym (second_holds (is_idle_disk s) _ may) ∙ ap (is_acknowledged_as key tag n extent) r.nothing in absurd (cc both)

gone_step : (s : State) (key : Bytes) → permits s (Noted (Gone key)) ≡ true → Settled s → Step s (after s (Noted (Gone key))) false
unfolding permits changed noted note_gone remove_entry
gone_step s key may h = then_step (life_moved (come_to-frame false Keeping s)) (by (find (is_entry_of key) (come_to Keeping s).entries))
  where
    by : (o : Option Entry) → Step (come_to Keeping s) (elim o as (λ c. State) [ None ↦ come_to Keeping s | Some e ↦ remove_entry e (come_to Keeping s) ]) false
    by None = record { settled = come_to-settled Keeping s h; life = same_life (come_to Keeping s) }
    by (Some e) =
        busy_step (ap works (come_at Keeping (λ t. may_note_gone t key) s may)) (record { at = refl; owed = refl; life = record { failures = refl; term = refl } }) (come_to-settled Keeping s h)

loaded_step : (s : State) (key tag : Bytes) (n i : ℕ) → Settled s → Step s (after s (Noted (Loaded key tag n i))) false
unfolding changed noted load load_from note_use
loaded_step s key tag n i h = by (row s key) (kept_row s key)
  where
    by : (r : Option Instance) (o : Option Entry) → Step s (elim r as (λ c. State) [ None ↦ s | Some x ↦ elim o as (λ c. State) [ None ↦ s | Some e ↦ load_from x e i s ] ]) false
    by None o = same_step refl h
    by (Some x) None = same_step refl h
    by (Some x) (Some e) = same_step refl h

begin_place : (op : DiskOp) (o : Option Agenda) (s : State) → SamePlace s (begin_op op o s) false
unfolding begin_op
begin_place op None s = same_place s
begin_place op (Some a) s = record { at = refl; owed = refl; life = record { failures = refl; term = refl } }

opening_off : (q : Phase) → list_any (λ p. is_same_phase p q) (IsWoken ∷ IsConfigured ∷ IsRooted ∷ IsListed ∷ IsListening ∷ IsStuck ∷ []) ≡ true → list_any (λ p. is_same_phase p q) phases ≡ false
opening_off Before is = refl
opening_off IsWoken is = refl
opening_off IsConfigured is = refl
opening_off IsRooted is = refl
opening_off IsListed is = refl
opening_off IsListening is = refl
opening_off IsStuck is = refl
opening_off Awaiting is = refl
opening_off Handling is = absurd (cc is)
opening_off Evicting is = absurd (cc is)
opening_off Keeping is = absurd (cc is)
opening_off Deciding is = absurd (cc is)
opening_off Following is = absurd (cc is)
opening_off Connecting is = absurd (cc is)
opening_off DecidingAgain is = absurd (cc is)

pub come_off : (p : Phase) (s : State) → list_any (λ q. is_at q s) phases ≡ false → come_to p s ≡ s
unfolding come_to come
come_off p s off = skip (is_at p) phases [] s off

no_keeping : {A : Type 0} (s : State) → is_opening s ≡ true → (come_to Keeping s).phase ≡ Keeping → A
no_keeping s opens at =
    let here : s.phase ≡ Keeping = sym (ap (λ (t : State). t.phase) (come_off Keeping s (opening_off s.phase opens))) ∙ at in
    let both : true ≡ false = sym opens ∙ ap (λ (q : Phase). list_any (λ p. is_same_phase p q) (IsWoken ∷ IsConfigured ∷ IsRooted ∷ IsListed ∷ IsListening ∷ IsStuck ∷ [])) here in
    absurd (cc both)

or_which : (a b : Bool) → (a || b) ≡ true → (a ≡ true) ⊎ (b ≡ true)
or_which true b is = inl refl
or_which false b is = inr is

opens_at : (s : State) → s.phase ≡ IsListed → is_opening s ≡ true
opens_at s at = ap (λ (q : Phase). list_any (λ p. is_same_phase p q) (IsWoken ∷ IsConfigured ∷ IsRooted ∷ IsListed ∷ IsListening ∷ IsStuck ∷ [])) at

begun_by : (op : DiskOp) (s : State) (opening : Bool) → is_opening s ≡ opening → (s.phase ≡ IsListed) ⊎ ((come_to Keeping s).phase ≡ Keeping) → Settled s
    → Step s (elim opening as (λ c. State) [ true ↦ begin_in_opening op s | false ↦ begin_in_turn op (come_to Keeping s) ]) false
unfolding begin_in_opening begin_in_turn
begun_by op s true opens (inl at) h = busy_step (ap works at) (begin_place op (agenda_in_opening op s) s) h
begun_by op s true opens (inr at) h = no_keeping s opens at
begun_by op s false turns (inl at) h = let both : true ≡ false = sym (opens_at s at) ∙ turns in absurd (cc both)
begun_by op s false turns (inr at) h =
    then_step (life_moved (come_to-frame false Keeping s)) (busy_step (ap works at) (begin_place op (agenda_in_turn op (come_to Keeping s)) (come_to Keeping s)) (come_to-settled Keeping s h))

begun_where : (op : DiskOp) (s : State) → ((is_at IsListed s && may_begin_in_opening op s) ≡ true) ⊎ (may_in Keeping (may_begin_in_turn op) s ≡ true) → (s.phase ≡ IsListed) ⊎ ((come_to Keeping s).phase ≡ Keeping)
begun_where op s (inl is) = inl (at_phase IsListed s (first_holds (is_at IsListed s) _ is))
begun_where op s (inr is) = inr (come_at Keeping (may_begin_in_turn op) s is)

began_step : (s : State) (op : DiskOp) → permits s (Began op) ≡ true → Settled s → Step s (after s (Began op)) false
unfolding permits changed begun_op
began_step s op may h = begun_by op s (is_opening s) refl (begun_where op s (or_which (is_at IsListed s && may_begin_in_opening op s) _ may)) h

enter_place : (s : State) → SamePlace s (enter_next s) false
unfolding enter_next
enter_place s = by s.agenda.todo
  where
    one : (next : Todo) (todo : List Todo) → SamePlace s (elim next as (λ c. State) [ Do op ↦ s | Acknowledge key tag n extent ↦ s | Enter e ↦ left_todo todo (record s { entries = s.entries ++ e ∷ [] }) ]) false
    one (Do op) todo = same_place s
    one (Acknowledge key tag n extent) todo = same_place s
    one (Enter e) todo = record { at = refl; owed = refl; life = record { failures = refl; term = refl } }

    by : (todo : List Todo) → SamePlace s (elim todo as (λ c. State) [
      | [] ↦ s
      | next ∷ rest ↦ elim next as (λ c. State) [ Do op ↦ s | Acknowledge key tag n extent ↦ s | Enter e ↦ left_todo rest (record s { entries = s.entries ++ e ∷ [] }) ]
    ]) false
    by [] = same_place s
    by (next ∷ rest) = one next rest

lose_place : (name : Bytes) (s : State) → SamePlace s (lose_in_opening name s) false
unfolding lose_in_opening lose_entry
lose_place name s = by (is_opening s)
  where
    by : (opens : Bool) → SamePlace s (elim opens as (λ c. State) [ true ↦ lose_entry name s | false ↦ s ]) false
    by true = record { at = refl; owed = refl; life = record { failures = refl; term = refl } }
    by false = same_place s

fail_place : (op : DiskOp) (s : State) → SamePlace s (fail_op op s) true
unfolding fail_op lose_draft close_name
fail_place op s = by (is_of_draft op)
  where
    by : (drafts : Bool) → SamePlace s (elim drafts as (λ c. State) [ true ↦ lose_draft s | false ↦ close_name s.agenda.name s ]) true
    by true = record { at = refl; owed = refl; life = record { failures = refl; term = refl } }
    by false = record { at = refl; owed = refl; life = record { failures = refl; term = refl } }

ended_place : (op : DiskOp) (ok : Bool) (s : State) → SamePlace s (ended_op op ok s) (not ok)
unfolding ended_op end_op
ended_place op true s = let p = enter_place (record s { under_way = None; disk = s.disk ++ Did op true ∷ [] }) in record { at = p.at; owed = p.owed; life = record { failures = p.life.failures; term = p.life.term } }
ended_place op false s =
    let p = place_on (fail_place op (record s { under_way = None; disk = s.disk ++ Did op false ∷ [] })) (lose_place s.agenda.name (fail_op op (record s { under_way = None; disk = s.disk ++ Did op false ∷ [] }))) in
    record { at = p.at; owed = p.owed; life = record { failures = p.life.failures; term = p.life.term } }

did_step : (s : State) (op : DiskOp) (ok : Bool) → permits s (Did op ok) ≡ true → Settled s → Step s (after s (Did op ok)) (not ok)
unfolding permits changed
did_step s op ok may h = busy_step (working s busy h) (ended_place op ok s) h
  where
    busy : AtRest s → ⊥
    busy r = let both : true ≡ false = sym (first_holds (may_end_op s op) _ may) ∙ ap (λ (u : Option DiskOp). is_some_with (λ begun. is_same_op begun op) u) r.idle in absurd (cc both)

lost_rest : (name : Bytes) (s : State) → AtRest s → AtRest (lose_in_opening name s)
unfolding lose_in_opening lose_entry
lost_rest name s r = by (is_opening s)
  where
    by : (opens : Bool) → AtRest (elim opens as (λ c. State) [ true ↦ lose_entry name s | false ↦ s ])
    by true = record { idle = r.idle; nothing = r.nothing }
    by false = r

closed_rest : (name : Bytes) (s : State) → AtRest s → AtRest (close_name name s)
unfolding close_name
closed_rest name s r = record { idle = r.idle; nothing = refl }

closed_life : (name : Bytes) (s : State) → GoesOnIn s (close_name name s) true
unfolding close_name
closed_life name s = record { failures = refl; term = refl }

unread_step : (s : State) (name : Bytes) → permits s (Unread name) ≡ true → Settled s → Step s (after s (Unread name)) true
unfolding permits changed unread
unread_step s name may h =
    let rest = rest_so s (first_holds (is_at_rest s) _ (second_holds (may_fail s false) _ may)) in
    paid_step (lost_rest name (close_name name s) (closed_rest name s rest)) (life_on (closed_life name s) (lose_place name (close_name name s)).life)

-- ---- the opening

opened_quiet : (p : Phase) (ok : Bool) (s : State) → IsQuiet s → Step s (opened_to p ok s) (not ok)
unfolding opened_to stuck
opened_quiet p true s q = quiet_step (record { free = q.free; idle = q.idle; nothing = q.nothing }) (record { failures = refl; term = refl })
opened_quiet p false s q = quiet_step (record { free = q.free; idle = q.idle; nothing = q.nothing }) (record { failures = refl; term = refl })

rooted_step : (s : State) (folder : Bytes) → permits s (Rooted folder) ≡ true → Settled s → Step s (after s (Rooted folder)) false
unfolding permits changed
rooted_step s folder may h = opened_quiet IsRooted true s (quiet_at IsConfigured s (at_phase IsConfigured s (first_holds (is_at IsConfigured s) _ may)) refl refl h)

listed_step : (s : State) (ok : Bool) → permits s (Listed ok) ≡ true → Settled s → Step s (after s (Listed ok)) (not ok)
unfolding permits changed
listed_step s ok may h = opened_quiet IsListed ok s (quiet_at IsRooted s (at_phase IsRooted s (first_holds (is_at IsRooted s) _ may)) refl refl h)

listens_step : (s : State) (port : ℕ) (ok : Bool) → permits s (Listens port ok) ≡ true → Settled s → Step s (after s (Listens port ok)) (not ok)
unfolding permits changed
listens_step s port ok may h =
    let listens = first_holds (is_at IsListed s && (port == s.settings.port) && is_recovered s) _ may in
    let recovered = second_holds (is_at IsListed s && (port == s.settings.port)) _ listens in
    let at = at_phase IsListed s (first_holds (is_at IsListed s) _ (first_holds (is_at IsListed s && (port == s.settings.port)) _ listens)) in
    opened_quiet IsListening ok s (quiet_by (h.free (ap (is_same_phase Handling) at)) (rest_so s (first_holds (is_idle_disk s && is_empty s.agenda.todo) _ recovered)))

set_quiet : (o : Option Settings) (s : State) → IsQuiet s → Step s (with_settings o s) false
unfolding with_settings
set_quiet None s q = quiet_step (record { free = q.free; idle = q.idle; nothing = q.nothing }) (record { failures = refl; term = refl })
set_quiet (Some c) s q = quiet_step (record { free = q.free; idle = q.idle; nothing = q.nothing }) (record { failures = refl; term = refl })

configured_by : (text : Option Bytes) (s : State) → IsQuiet s → Step s (configured text s) (not (is_some text))
unfolding configured stuck
configured_by None s q = quiet_step (record { free = q.free; idle = q.idle; nothing = q.nothing }) (record { failures = refl; term = refl })
configured_by (Some text) s q = set_quiet (settings_in (reading_of s.term.words (Some text))) s q

configured_step : (s : State) (file : Bytes) (text : Option Bytes) → permits s (Configured file text) ≡ true → Settled s → Step s (after s (Configured file text)) (not (is_some text))
unfolding permits changed
configured_step s file text may h =
    let named = first_holds (is_at IsWoken s && is_some_with (λ n. bytes_eq n file) (file_of s.term.words)) _ may in
    configured_by text s (quiet_at IsWoken s (at_phase IsWoken s (first_holds (is_at IsWoken s) _ named)) refl refl h)

begun_settled : (s : State) → IsQuiet s → Settled (begun s)
unfolding begun
begun_settled s q = by (are_texts s.term) (names_file s.term)
  where
    by : (texts names : Bool) → Settled (elim texts as (λ c. State) [
      | false ↦ with_settings None s
      | true ↦ elim names as (λ c. State) [ true ↦ record s { phase = IsWoken } | false ↦ with_settings (settings_in (reading_of s.term.words None)) s ]
    ])
    by false names = (set_quiet None s q).settled
    by true true = settled_quiet (record { free = q.free; idle = q.idle; nothing = q.nothing })
    by true false = (set_quiet (settings_in (reading_of s.term.words None)) s q).settled

pub woken_settled : (image : Files) (s : State) → Settled (woken image s)
unfolding woken
woken_settled image s = begun_settled _ (record { free = refl; idle = refl; nothing = refl })

-- ---- all

noted_step : (s : State) (remark : Remark) → permits s (Noted remark) ≡ true → Settled s → Step s (after s (Noted remark)) false
noted_step s (Taken c i d) may h = taken_step s c i d may h
noted_step s (Cut c cause) may h = cut_step s c cause may h
noted_step s (Kept key tag n extent) may h = kept_step s key tag n extent may h
noted_step s (Gone key) may h = gone_step s key may h
noted_step s (Forgotten key) may h = forgotten_step s key h
noted_step s (Evicted key tag n i) may h = evicted_step s key tag n i h
noted_step s (Loaded key tag n i) may h = loaded_step s key tag n i h

can_step : (s : State) (owed : Owed) (n : ℕ) → is_at Awaiting s ≡ true → Settled s → Step s (event (owing owed n s)) false
can_step s owed n may h = owing_step s owed n may h

can_read_step : (s : State) (n : ℕ) → permits s (CanRead n) ≡ true → Settled s → Step s (after s (CanRead n)) false
unfolding permits changed
can_read_step s n may h = can_step s (ReadOf n) n may h

can_write_step : (s : State) (n : ℕ) → permits s (CanWrite n) ≡ true → Settled s → Step s (after s (CanWrite n)) false
unfolding permits changed
can_write_step s n may h = can_step s (WriteTo n) n may h

printed_step : (s : State) (text : Bytes) → Settled s → Step s (after s (Printed text)) false
unfolding changed
printed_step s text h = record { settled = h; life = same_life s }

pub after_step : (s : State) (h : Happening) → wakes h ≡ false → permits s h ≡ true → Settled s → Step s (after s h) (fails h)
after_step s (Woke image) wakes may h = absurd (cc wakes)
after_step s (Waits w) wakes may h = waits_step s w may h
after_step s (Clock seconds) wakes may h = clock_step s seconds may h
after_step s (Opened n) wakes may h = opened_step s n may h
after_step s (CanRead n) wakes may h = can_read_step s n may h
after_step s (CanWrite n) wakes may h = can_write_step s n may h
after_step s (Heard c bytes) wakes may h = heard_step s c bytes may h
after_step s (HungUp c) wakes may h = hung_up_step s c may h
after_step s (Said c offered bytes) wakes may h = said_step s c offered bytes may h
after_step s (Shut c) wakes may h = shut_step s c may h
after_step s (Dialled n host port) wakes may h = dialled_step s n host port may h
after_step s (Undialled host port) wakes may h = undialled_step s host port may h
after_step s (Reached k) wakes may h = reached_step s k may h
after_step s (Ended k) wakes may h = ended_step s k may h
after_step s (Broke k) wakes may h = broke_step s k may h
after_step s (Asked k bytes) wakes may h = asked_step s k bytes may h
after_step s (Got k bytes) wakes may h = got_step s k bytes may h
after_step s (Dropped k) wakes may h = dropped_step s k may h
after_step s (NoneYet n) wakes may h = none_yet_step s n may h
after_step s (Began op) wakes may h = began_step s op may h
after_step s (Did op ok) wakes may h = did_step s op ok may h
after_step s (Unread name) wakes may h = unread_step s name may h
after_step s (Noted remark) wakes may h = noted_step s remark may h
after_step s (Rooted folder) wakes may h = rooted_step s folder may h
after_step s (Listed ok) wakes may h = listed_step s ok may h
after_step s (Listens port ok) wakes may h = listens_step s port ok may h
after_step s (Configured file text) wakes may h = configured_step s file text may h
after_step s (Printed text) wakes may h = printed_step s text h
after_step s Stopped wakes may h = stopped_step s may h
