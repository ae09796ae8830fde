-- The laws: whoever waits for an exchange has it where a turn may end, and so has one to whom more is passed.
use Rattle.std.proofs.Common.{◌≡◌, refl, ℕ, ◌<◌, ◌≤◌, Bool, true, false, not, ◌||◌, List, [], ◌∷◌, ◌++◌, length, Option, Some, None, sym, subst, ap, ◌∙◌, arith}
use Rattle.std.proofs.lemmas.List.{append-nil}
use Rattle.pp_world.specs.Log.{Log}
use Rattle.pp_world.specs.declared.event.Wants.{Wants}
use Rattle.pp_world.specs.declared.happening.Happening.{Happening}
use Rattle.pp_world.specs.declared.happening.Happening.TheVariants.{Woke, Waits, Clock, Opened, CanRead, CanWrite, Heard, HungUp, Said, Shut, Dialled, Undialled, Reached, Ended, Broke, Asked, Got, Dropped, NoneYet, Began, Did, Unread, Noted, Rooted, Listed, Listens, Configured, Printed, Stopped}
use Rattle.pp_world.specs.declared.note.Decision.{Decision}
use Rattle.pp_world.specs.declared.note.Remark.{Remark}
use Rattle.pp_world.specs.declared.note.Remark.TheVariants.{Taken, Cut, Kept, Gone, Forgotten, Evicted, Loaded}
use Rattle.pp_law.specs.After.{after, changed, event, noted, opened, paid, shut, take_decision}
use Rattle.pp_law.specs.Closing.{forsake, is_of}
use Rattle.pp_law.specs.Connections.{client, is_client, is_for}
use Rattle.pp_law.specs.Deciding.{decided}
use Rattle.pp_law.specs.Lawful.{Lawful}
use Rattle.pp_law.specs.Lists.{Bytes, is_some_with}
use Rattle.pp_law.specs.Permits.{IsPermitted, is_new_number, is_owed, is_permitted, permits, permits_broke, permits_dial}
use Rattle.pp_law.specs.Phases.{come_to, come_to_decide, deciding, ending, in_phase, is_awaiting, is_done, is_free, next, phases}
use Rattle.pp_law.specs.Opening.{is_at}
use Rattle.pp_law.specs.Replies.{begin_replies, begun_at_end, regained}
use Rattle.pp_law.specs.Stages.{is_begun, is_passing, passed_of}
use Rattle.pp_law.specs.State.{State, Term, IsRooted, IsListed, IsListening, Awaiting, Handling, Evicting, Keeping, Deciding, Connecting, DecidingAgain, Owed, Free, ReadOf, WriteTo, Client, Conn, Exchange, Passed, Reply, Stage, Undecided, Waiting, Passing, Answering, start}
use Rattle.pp_law.specs.Table.{swept}
use Rattle.pp_law.specs.Turn.{rest_with, rested_client}
use Rattle.pp_laws.specs.Runs.{IsIn, state_after}
use Rattle.pp_laws.proofs.Lists.{in_find, in_map}
use Rattle.pp_laws.proofs.Sound.{Since, Sound, facts_of as sound_facts}
use Rattle.pp_laws.proofs.Tests.{below, first_holds, same_number, second_holds}
use Rattle.pp_laws.proofs.Tops.{come_to-top}
use Rattle.pp_laws_coming.specs.Coming.{IsToldOn, is_waiting, may_have_ask}
use Rattle.pp_laws_coming.proofs.Laws.{asks_told, coming_on}
use Rattle.pp_laws_coming.proofs.Permitted.{ended_owed, got_owed, heard_owed, hung_owed, opened_above, said_owed}
use Rattle.pp_laws_coming.proofs.Phases.{AtPhase, come_to-comes, early_of, next-comes}
use Rattle.pp_laws_coming.proofs.Steps.{placing-comes}
use Rattle.pp_laws_coming.proofs.Stills.{decided-phase, gone-phase, got-phase, hang_up-phase, hear-phase, said-phase}
use Rattle.pp_laws_ends.proofs.Undecided.{Ends, ends_at}
use Rattle.pp_laws_pool.proofs.Along.{Steps, after_all-append, along}
use Rattle.pp_laws_replies.proofs.Usable.{permitted_taken}
use Rattle.pp_laws_turn.specs.SoundTurn.{IsSoundTurn}
use Rattle.pp_laws_turn.proofs.Disk.{note_gone-keeps as note_gone-any, note_kept-keeps as note_kept-any}
use Rattle.pp_laws_turn.proofs.Laws.{sound_turns}
use Rattle.pp_laws_turn.proofs.Lifts.{obeying}
use Rattle.pp_laws_turn.proofs.View.{Holds, facts_of, holds}
use Rattle.pp_law.proofs.Prefixes.{front_from}
use Rattle.pp_obeys.specs.Obeys.{Obeys}
use Rattle.pp_obeys.proofs.Come.{same_phase}
use Rattle.pp_obeys.proofs.Obeying.{log-good, obeys_at_first}
use Rattle.pp_laws_left.specs.Owned.{EndsAreOwned, TurnsAreOwned}
use Rattle.pp_laws_left.proofs.Keep.{AtEvent, awaits, begun_in, facts_of as keeps_of, keeps_same, owes}
use Rattle.pp_laws_left.proofs.KeepAsks.{close_client-keeps, placing-keeps}
use Rattle.pp_laws_left.proofs.KeepRows.{load-keeps, note_gone-keeps, note_kept-keeps}
use Rattle.pp_laws_left.proofs.KeepTurns.{come_to-keeps, deciding-keeps, next-keeps, tick-keeps}
use Rattle.pp_laws_left.proofs.Laws.{obeys_coming}
use Rattle.pp_laws_left.proofs.Owned.{Facts, Owned, is_coming_in, none_but}
use Rattle.pp_laws_left.proofs.OwnedAsks.{filling_waits}
use Rattle.pp_laws_left.proofs.OwnedOver.{find_some}
use Rattle.pp_laws_left.proofs.OwnedCame.{got-owned}
use Rattle.pp_laws_left.proofs.OwnedBegins.{begin_replies-owned, rest_with-owned}
use Rattle.pp_laws_left.proofs.OwnedDecisions.{taken-owned}
use Rattle.pp_laws_left.proofs.OwnedLaws.{OwnedNow, begun_op-owned, come_to-owned, configured-now, deciding-owned, ended_op-owned, event-owned, evicted-owned, forgotten_by-owned, gone-owned, kept_now, load-owned, next-owned, opened-owned, opened_to-now, owing-owned, re_at, reached-owned, said-owned, settle, start-owned, unread-owned, woken-owned}
use Rattle.pp_laws_left.proofs.OwnedPlaces.{dialled-owned, dropped-owned, shut-owned, undialled-owned}
use Rattle.pp_laws_left.proofs.OwnedReplies.{ask-owned, close_client-owned, end_replies-owned, hang_up-owned, hear-owned, paid-owned, tick-owned}
use Rattle.pp_laws_left.proofs.Passes.{unbegun_same}
use Rattle.pp_laws_left.proofs.Spoken.{Spoken, facts_of as spoken_facts}
use Rattle.pp_laws_left.proofs.SpokenHappenings.{ask-keeps, begun_op-keeps, dialled-keeps, dropped-keeps, ended_op-keeps, event-keeps, evicted-keeps, forgotten_by-keeps, paid-keeps, reached-keeps, undialled-keeps, unread-keeps}
use Rattle.pp_laws_left.proofs.SpokenLaws.{can_read, can_write, fresh_to_wait, obeys_to, owed_event, spoken_on_log}

-- ---- behind an event

-- where the event was handled, and nothing is owed any more
pub handled_off : (t : State) → t.phase ≡ Handling → AtEvent (paid t).phase (paid t).owed → ⊥
unfolding paid regained
handled_off t is (awaits at) = let both : Handling ≡ Awaiting = sym is ∙ at in cc both
handled_off t is (owes at) = cc at

pub handles : (terms : List Term) (s : State) (log : Log) (n : ℕ) → Obeys terms s log → is_owed s n ≡ true → s.phase ≡ Handling
handles terms s log n obeys is = (sound_turns terms s log obeys).owes (not_free (owed_event s n is))
  where
    not_free : AtEvent s.phase s.owed → is_free s.owed ≡ false
    not_free (owes at) = at
    not_free (awaits at) = by s.owed refl is
      where
        by : (owed : Owed) → s.owed ≡ owed → is_owed (record s { owed = owed }) n ≡ true → is_free s.owed ≡ false
        by Free eq on = absurd (cc on)
        by (ReadOf m) eq on = ap is_free eq
        by (WriteTo m) eq on = ap is_free eq

pub paid_now : {At : Type 0} (t : State) → t.phase ≡ Handling → Holds (Owned none_but At) t → OwnedNow (paid t)
paid_now t is h = settle (paid t) (λ at. absurd (handled_off t is at)) (paid-owned t h)

-- ---- what is permitted

unhampered : (made : Option ℕ) (t : Bool) → (elim made as (λ x. Bool) [ Some who ↦ false | None ↦ t ]) ≡ true → t ≡ true
unhampered (Some who) t is = absurd (cc is)
unhampered None t is = is

ticks_at : (s : State) (seconds : ℕ) → IsPermitted s (Clock seconds) → s.phase ≡ Awaiting
unfolding is_permitted permits
ticks_at s seconds is = sym (same_phase Awaiting s.phase (unhampered s.made_room_for (is_awaiting s) is))

breaks_at : (s : State) (n : ℕ) → IsPermitted s (Broke n) → AtEvent s.phase s.owed
unfolding is_permitted permits
breaks_at s n is = by (is_awaiting s) refl (second_holds _ (is_awaiting s || is_owed s n) (unhampered s.made_room_for (permits_broke s n) is))
  where
    by : (t : Bool) → is_awaiting s ≡ t → (t || is_owed s n) ≡ true → AtEvent s.phase s.owed
    by true at on = awaits (sym (same_phase Awaiting s.phase at))
    by false at on = owed_event s n on

dials_new : (s : State) (n : ℕ) (host : Bytes) (port : ℕ) → IsPermitted s (Dialled n host port) → s.top < n
unfolding is_permitted permits
dials_new s n host port is = below s.top n (first_holds (is_new_number s n) (permits_dial s host port) (unhampered s.made_room_for _ is))

pub event_handles : (s : State) → (event s).phase ≡ Handling
unfolding event regained
event_handles s = refl

-- ---- where a turn ends

waits-now : (terms : List Term) (s : State) (log : Log) (w : Wants) → Obeys terms s log → Obeys terms (changed s (Waits w)) (log ++ Waits w ∷ []) → IsPermitted s (Waits w) → Spoken true s → Spoken true (changed s (Waits w)) → OwnedNow s → OwnedNow (changed s (Waits w))
unfolding changed ending rest_with begin_replies swept forsake
waits-now terms s log w obeys behind_ is before says h = holds (with_calm (facts_of owned))
  where
    t : State
    t = come_to DecidingAgain s

    u : State
    u = rest_with w (begin_replies (come_to DecidingAgain s))

    -- nothing has to be calm yet
    off : Holds (Owned none_but ⊥) (come_to DecidingAgain s)
    off = let g = come_to-owned DecidingAgain s (coming_on terms s log obeys) h in holds (re_at t.clients t.exchanges t.conns t.next_exchange (λ none. absurd none) (facts_of g))

    owned : Holds (Owned none_but ⊥) (rest_with w (begin_replies (come_to DecidingAgain s)))
    owned = rest_with-owned w _ (begin_replies-owned (come_to DecidingAgain s) off)

    told : IsToldOn (rest_with w (begin_replies (come_to DecidingAgain s)))
    told = asks_told terms u (log ++ Waits w ∷ []) behind_

    sound : IsSoundTurn (rest_with w (begin_replies (come_to DecidingAgain s)))
    sound = sound_turns terms u (log ++ Waits w ∷ []) behind_

    awaited : AtEvent (rest_with w (begin_replies (come_to DecidingAgain s))).phase (rest_with w (begin_replies (come_to DecidingAgain s))).owed
    awaited = awaits refl

    calm : (e : Exchange) (c : Client) → IsIn e u.exchanges → IsIn c u.clients → is_for e c ≡ true → is_waiting c.stage ≡ false → is_begun c ≡ false → passed_of c ≡ None
    calm e c i j its idle begun = by c.stage refl
      where
        going : c.is_closing ≡ false
        going = closing c.is_closing refl
          where
            closing : (b : Bool) → c.is_closing ≡ b → b ≡ false
            closing false is_ = refl
            closing true is_ =
                let w_ = find_some (is_of c.number) e u.exchanges i its in
                let both : Some w_.0 ≡ None = sym w_.1 ∙ sound.alone c j is_ in
                absurd (cc both)

        -- one that has not begun is what it was
        fresh : (r : Reply) → c.stage ≡ Answering r → is_passing r.decision ≡ false → passed_of c ≡ None
        fresh r at row =
            let r1 = in_map (rested_client (begin_replies t)) c (begin_replies t).clients j in
            let r2 = in_map (begun_at_end t) r1.was t.clients r1.there in
            let same_ : r1.was ≡ r2.was = r2.is ∙ unbegun_same t r2.was (sym (ap is_begun r2.is) ∙ sym (ap is_begun r1.is) ∙ begun) in
            let its_stage : r2.was.stage ≡ Answering r = ap (λ (x : Client). x.stage) (sym same_) ∙ ap (λ (x : Client). x.stage) (sym r1.is) ∙ at in
            let its_going : r2.was.is_closing ≡ false = ap (λ (x : Client). x.is_closing) (sym same_) ∙ ap (λ (x : Client). x.is_closing) (sym r1.is) ∙ going in
            ap passed_of r1.is ∙ ap passed_of same_ ∙ fresh_to_wait terms s log w obeys is before r2.was r2.there its_going r its_stage (sym (ap begun_in at) ∙ begun) row

        answering : (r : Reply) → c.stage ≡ Answering r → (b : Bool) → is_passing r.decision ≡ b → passed_of c ≡ None
        answering r at true on = let both : false ≡ true = sym begun ∙ ap begun_in at ∙ ((spoken_facts says).all c j).begun awaited going r (at, on) in absurd (cc both)
        answering r at false row = fresh r at row

        by : (g : Stage) → c.stage ≡ g → passed_of c ≡ None
        by Undecided at = told.unasked c j (ap may_have_ask at)
        by Waiting at = let both : true ≡ false = sym (ap is_waiting at) ∙ idle in absurd (cc both)
        by Passing at = let both : true ≡ false = sym (ap is_waiting at) ∙ idle in absurd (cc both)
        by (Answering r) at = answering r at (is_passing r.decision) refl

    with_calm : Facts none_but ⊥ u.clients u.exchanges u.conns u.next_exchange → Facts none_but (AtEvent u.phase u.owed) u.clients u.exchanges u.conns u.next_exchange
    with_calm f = record {
      callers = f.callers;
      apart = f.apart;
      given = f.given;
      one = f.one;
      plain = f.plain;
      fills = λ e c i j its some isnt. (let g = f.fills e c i j its some isnt in record { untold = g.untold; calm = λ at begun none. calm e c i j its (filling_waits e c some (λ on. f.kinds e c i j its isnt on)) begun });
      kinds = f.kinds;
      asks = f.asks;
      amid = f.amid;
      lined = f.lined;
      conns = f.conns;
      own = f.own;
      placed = f.placed;
      front = f.front;
      behind = f.behind;
    }

-- ---- happening by happening

taken_phase : (n : ℕ) (d : Decision) (s : State) → (take_decision n d (deciding s)).phase ≡ Deciding
unfolding take_decision deciding regained
taken_phase n d s = by (client (in_phase Deciding (come_to_decide s)) n)
  where
    by : (o : Option Client) → (elim o as (λ x. State) [ None ↦ in_phase Deciding (come_to_decide s) | Some c ↦ regained (record (decided c d (in_phase Deciding (come_to_decide s))) { forgotten = []; made_room_for = None }) ]).phase ≡ Deciding
    by None = refl
    by (Some c) = decided-phase c d (in_phase Deciding (come_to_decide s))

noted-now : {b : Since} (terms : List Term) (log : Log) (remark : Remark) (s : State) → Obeys terms s log → Obeys terms (noted remark s) (log ++ Noted remark ∷ []) → Sound b s → IsPermitted s (Noted remark) → OwnedNow s → OwnedNow (noted remark s)
unfolding noted
noted-now terms log (Taken c i d) s obeys behind_ so is h = settle _ conv (taken-owned c i d s so (permitted_taken s c i d is) (deciding-owned s (coming_on terms s log obeys) h))
  where
    phase : (take_decision c d (deciding s)).phase ≡ Deciding
    phase = taken_phase c d s

    conv : AtEvent (take_decision c d (deciding s)).phase (take_decision c d (deciding s)).owed → AtEvent s.phase s.owed
    conv (awaits at) = let both : Deciding ≡ Awaiting = sym phase ∙ at in absurd (cc both)
    conv (owes at) = let both : Deciding ≡ Handling = sym phase ∙ (sound_turns terms (take_decision c d (deciding s)) (log ++ Noted (Taken c i d) ∷ []) behind_).owes at in absurd (cc both)
noted-now terms log (Cut c cause) s obeys behind_ so is h = kept_now (close_client-keeps c true _ (deciding-keeps s (keeps_same s))) (λ at. at) (close_client-owned c true _ (deciding-owned s (coming_on terms s log obeys) h))
noted-now terms log (Kept key tag n extent) s obeys behind_ so is h = kept_now (note_kept-keeps key extent s (keeps_same s)) (λ at. at) (note_kept-any key extent s h)
noted-now terms log (Gone key) s obeys behind_ so is h = kept_now (note_gone-keeps key _ (come_to-keeps Keeping s (keeps_same s))) (λ at. at) (note_gone-any key _ (come_to-owned Keeping s (coming_on terms s log obeys) h))
noted-now terms log (Forgotten key) s obeys behind_ so is h = kept_now (forgotten_by-keeps key s (keeps_same s)) (λ at. at) (forgotten_by-owned key s (coming_on terms s log obeys) h)
noted-now terms log (Evicted key tag n i) s obeys behind_ so is h = kept_now (evicted-keeps _ (come_to-keeps Evicting s (keeps_same s))) (λ at. at) (evicted-owned _ (come_to-owned Evicting s (coming_on terms s log obeys) h))
noted-now terms log (Loaded key tag n i) s obeys behind_ so is h = kept_now (load-keeps key i s (keeps_same s)) (λ at. at) (load-owned key i s h)

opened-now : {b : Since} (n : ℕ) (s : State) → s.top < n → Sound b s → OwnedNow s → IsSoundTurn s → OwnedNow (event (opened n s))
unfolding opened
opened-now n s above so h turn = kept_now (event-keeps _ (keeps_same (opened n s))) (λ at. at) (event-owned _ (opened-owned n s fresh nobody h))
  where
    fresh : (c : Client) → IsIn c s.clients → c.number ≡ n → ⊥
    fresh c i eq = let le : c.number ≤ s.top = (sound_facts so).callers.given c i in let lt : s.top < n = above in omega arith

    nobody : (e : Exchange) → IsIn e s.exchanges → e.asker ≡ Some n → ⊥
    nobody e i asks = let a = turn.askers e n i asks in let w = in_find (is_client n) a.asker s.clients a.there in fresh a.asker w.0 (same_number a.asker.number n w.1)

shut-now : (n : ℕ) (s : State) → Holds (Owned none_but (AtEvent s.phase s.owed)) (come_to Connecting s) → OwnedNow (shut n (come_to Connecting s))
unfolding shut
shut-now n s h = settle _ (λ at. (keeps_of {exact = true} (close_client-keeps n false _ (come_to-keeps Connecting s (keeps_same s)))).event at) (shut-owned n (come_to Connecting s) h)

fresh_conn : (terms : List Term) (s : State) (log : Log) (n : ℕ) → Obeys terms s log → s.top < n → (g : Conn) → IsIn g (come_to Connecting s).conns → g.number ≡ n → ⊥
fresh_conn terms s log n obeys above g l eq =
    let le : g.number ≤ (come_to Connecting s).top = (sound_turns terms (come_to Connecting s) log (obeys_to Connecting terms s log obeys)).numbers.conns_given g l in
    let top : (come_to Connecting s).top ≡ s.top = come_to-top Connecting s in
    let lt : s.top < n = above in
    omega arith

stopped_at : (s : State) → AtEvent (event (record s { is_stopped = true })).phase (event (record s { is_stopped = true })).owed → AtEvent s.phase s.owed
unfolding event regained
stopped_at s (awaits is) = absurd (cc is)
stopped_at s (owes is) = owes is

changed-now : {b : Since} (terms : List Term) (log : Log) (s : State) (h : Happening) → Obeys terms s log → Obeys terms (changed s h) (log ++ h ∷ []) → Sound b s → IsPermitted s h → Spoken true s → Spoken true (changed s h) → OwnedNow s → OwnedNow (changed s h)
unfolding changed
changed-now terms log s (Woke image) obeys behind_ so is before says h = woken-owned image s
changed-now terms log s (Waits w) obeys behind_ so is before says h = waits-now terms s log w obeys behind_ is before says h
changed-now terms log s (Clock seconds) obeys behind_ so is before says h = kept_now (event-keeps _ (tick-keeps seconds s (keeps_same s))) (λ at. at) (event-owned _ (tick-owned seconds s (awaits (ticks_at s seconds is)) h))
changed-now terms log s (Opened n) obeys behind_ so is before says h = opened-now n s (opened_above s n is) so h (sound_turns terms s log obeys)
changed-now terms log s (CanRead n) obeys behind_ so is before says h = settle _ (λ at. awaits (can_read s n is)) (event-owned _ (owing-owned (ReadOf n) n s h))
changed-now terms log s (CanWrite n) obeys behind_ so is before says h = settle _ (λ at. awaits (can_write s n is)) (event-owned _ (owing-owned (WriteTo n) n s h))
changed-now terms log s (Heard c bytes) obeys behind_ so is before says h = paid_now _ (hear-phase c bytes s ∙ handles terms s log c obeys (heard_owed s c bytes is)) (hear-owned c bytes s h)
changed-now terms log s (HungUp c) obeys behind_ so is before says h = paid_now _ (hang_up-phase c s ∙ handles terms s log c obeys (hung_owed s c is)) (hang_up-owned c s h)
changed-now terms log s (Said c offered bytes) obeys behind_ so is before says h = paid_now _ (said-phase c (length bytes) s ∙ handles terms s log c obeys (said_owed s c offered bytes is)) (said-owned c (length bytes) s h)
changed-now terms log s (Shut c) obeys behind_ so is before says h = shut-now c s (come_to-owned Connecting s (coming_on terms s log obeys) h)
changed-now terms log s (Dialled n host port) obeys behind_ so is before says h = kept_now (dialled-keeps n host port _ (placing-keeps _ (come_to-keeps Connecting s (keeps_same s)))) (λ at. at) (dialled-owned n host port _ (fresh_conn terms s log n obeys (dials_new s n host port is)) (come_to-owned Connecting s (coming_on terms s log obeys) h))
changed-now terms log s (Undialled host port) obeys behind_ so is before says h = kept_now (undialled-keeps _ (placing-keeps _ (come_to-keeps Connecting s (keeps_same s)))) (λ at. at) (undialled-owned _ (placing-comes {late = false} _ (early_of _ (come_to-comes Connecting s (coming_on terms s log obeys)))) (come_to-owned Connecting s (coming_on terms s log obeys) h))
changed-now terms log s (Reached k) obeys behind_ so is before says h = kept_now (event-keeps _ (reached-keeps k s (keeps_same s))) (λ at. at) (event-owned _ (reached-owned k s h))
changed-now terms log s (Ended k) obeys behind_ so is before says h = paid_now _ (gone-phase true k s ∙ handles terms s log k obeys (ended_owed s k is)) (gone-owned true k s (owed_event s k (ended_owed s k is)) h)
changed-now terms log s (Broke k) obeys behind_ so is before says h = paid_now _ (gone-phase false k (event s) ∙ event_handles s) (gone-owned false k (event s) (breaks_at s k is) (event-owned s h))
changed-now terms log s (Asked k bytes) obeys behind_ so is before says h = kept_now (paid-keeps _ (ask-keeps k (length bytes) s (keeps_same s))) (λ at. at) (paid-owned _ (ask-owned k (length bytes) s h))
changed-now terms log s (Got k bytes) obeys behind_ so is before says h = paid_now _ (got-phase (length bytes) k bytes s ∙ handles terms s log k obeys (got_owed s k bytes is)) (end_replies-owned _ (got-owned {Off = ⊥} (length bytes) k bytes s (owed_event s k (got_owed s k bytes is)) (λ none. none) h))
changed-now terms log s (Dropped k) obeys behind_ so is before says h = kept_now (dropped-keeps k _ (come_to-keeps Connecting s (keeps_same s))) (λ at. at) (dropped-owned k _ (come_to-owned Connecting s (coming_on terms s log obeys) h))
changed-now terms log s (NoneYet n) obeys behind_ so is before says h = kept_now (paid-keeps s (keeps_same s)) (λ at. at) (paid-owned s h)
changed-now terms log s (Began op) obeys behind_ so is before says h = kept_now (begun_op-keeps op s (keeps_same s)) (λ at. at) (begun_op-owned op s (coming_on terms s log obeys) h)
changed-now terms log s (Did op ok) obeys behind_ so is before says h = kept_now (ended_op-keeps op ok s (keeps_same s)) (λ at. at) (ended_op-owned op ok s h)
changed-now terms log s (Unread name) obeys behind_ so is before says h = kept_now (unread-keeps name s (keeps_same s)) (λ at. at) (unread-owned name s h)
changed-now terms log s (Noted remark) obeys behind_ so is before says h = noted-now terms log remark s obeys behind_ so is h
changed-now terms log s (Rooted folder) obeys behind_ so is before says h = opened_to-now IsRooted true s (λ e. cc e) h
changed-now terms log s (Listed ok) obeys behind_ so is before says h = opened_to-now IsListed ok s (λ e. cc e) h
changed-now terms log s (Listens port ok) obeys behind_ so is before says h = opened_to-now IsListening ok s (λ e. cc e) h
changed-now terms log s (Configured file text) obeys behind_ so is before says h = configured-now text s h
changed-now terms log s (Printed text) obeys behind_ so is before says h = h
changed-now terms log s Stopped obeys behind_ so is before says h = settle _ (λ at. stopped_at s at) (event-owned (record s { is_stopped = true }) (holds (facts_of h)))

-- ---- along a log, and some phases on

owned_steps : Steps OwnedNow
owned_steps terms front h one now =
    let lawful : Lawful terms front = front_from (start terms) front (h ∷ []) one.lawful in
    let obeys : Obeys terms (state_after terms front) front = obeys_at_first terms front lawful in
    let behind_ : Obeys terms (after (state_after terms front) h) (front ++ h ∷ []) = subst (λ (u : State). Obeys terms u (front ++ h ∷ [])) (after_all-append (start terms) front (h ∷ [])) (obeys_at_first terms (front ++ h ∷ []) one.lawful) in
    changed-now terms front (state_after terms front) h obeys behind_ (log-good terms front lawful).sound one.permitted (spoken_on_log terms (state_after terms front) front obeys) (spoken_on_log terms (after (state_after terms front) h) (front ++ h ∷ []) behind_) now

owned_at : (terms : List Term) (log : Log) → Lawful terms log → OwnedNow (state_after terms log)
owned_at terms log lawful = along OwnedNow (λ t. start-owned t) owned_steps terms log [] (subst (λ (l : Log). Lawful terms l) (sym (append-nil log)) lawful)

abbrev Both : State → Type 0
Both s = OwnedNow s × Holds AtPhase s

owned_next : (s : State) → is_done s ≡ true → Both s → Both (next s)
owned_next s done h = (kept_now (next-keeps s (keeps_same s)) (λ at. at) (next-owned s h.1 h.0), next-comes s h.1)

pub owned_on : (terms : List Term) (s : State) (log : Log) → Obeys terms s log → OwnedNow s
owned_on terms s log obeys = (obeying Both owned_next terms s log obeys (owned_at terms log obeys.lawful, coming_on terms (state_after terms log) log (obeys_at_first terms log obeys.lawful))).0

-- ---- the laws

pub turns_are_owned : TurnsAreOwned
turns_are_owned terms s log obeys = record {
  asked = λ c i goes open_ tries. (let p = f.asks c i (λ is. cc is) (record { going = goes; tries = tries; unanswered = open_ }) in (p.ask, p.there, p.its));
  amid = λ c p i goes some short finished tries. (let w = f.amid c i (λ is. cc is) (record { going = goes; tries = tries; more = more c p some short finished }) in (w.ask, w.there, w.its));
}
  where
    f : Facts none_but (AtEvent s.phase s.owed) s.clients s.exchanges s.conns s.next_exchange
    f = facts_of (owned_on terms s log obeys)

    more : (c : Client) (p : Passed) → passed_of c ≡ Some p → p.is_short ≡ false → p.pipe.is_finished ≡ false → is_coming_in c.brought ≡ true
    more c p some short finished = ap (λ (o : Option Passed). is_some_with (λ q. not (q.is_short || q.pipe.is_finished)) o) some ∙ ap (λ b. not (b || p.pipe.is_finished)) short ∙ ap not finished

pub ends_are_owned : EndsAreOwned
unfolding come_to
ends_are_owned terms s log ends =
    let at : Ends (come_to DecidingAgain s) = ends_at terms s log ends.obeys ends.early ends.may ends.runs in
    let w = turns_are_owned terms (come_to DecidingAgain s) log (obeys_coming (is_at DecidingAgain) phases s ends.obeys) in
    record {
      asked = λ c i open_ tries. w.asked c i (at.going c i) open_ tries;
      amid = λ c r p i stood passes some short finished tries. w.amid c p i (at.going c i) some short finished tries;
    }
