-- The laws: the response of an exchange that has more of a body to ask goes on, and behind the phase in which what nobody sees is dropped
-- each of these is somebody's; so where a turn may end, all of what it leaves.
use Rattle.std.proofs.Common.{◌≡◌, refl, ℕ, Bool, true, false, ◌||◌, List, [], ◌∷◌, ◌++◌, length, Option, Some, None, inl, inr, sym, subst, ap, ◌∙◌}
use Rattle.std.proofs.lemmas.List.{append-nil}
use Rattle.std.specs.List.{list_any}
use Rattle.pp_world.specs.Log.{Log}
use Rattle.pp_world.specs.declared.happening.Happening.{Happening}
use Rattle.pp_world.specs.declared.happening.Happening.TheVariants.{Woke, Waits, Clock, Opened, CanRead, CanWrite, Heard, HungUp, Said, Shut, Dialled, Undialled, Reached, Ended, Broke, Asked, Got, Dropped, NoneYet, Began, Did, Unread, Noted, Rooted, Listed, Listens, Configured, Printed, Stopped}
use Rattle.pp_world.specs.declared.note.Remark.{Remark}
use Rattle.pp_world.specs.declared.note.Remark.TheVariants.{Taken, Cut, Kept, Gone, Forgotten, Evicted, Loaded}
use Rattle.pp_law.specs.After.{after, changed, dialled, dropped, event, forgotten_by, leave_memory, noted, shut, undialled}
use Rattle.pp_law.specs.Connections.{is_client, placing}
use Rattle.pp_law.specs.Lawful.{Lawful}
use Rattle.pp_law.specs.Leaving.{Leaving, ForAnother, ForMemory, BeforeDecision, leaving_as}
use Rattle.pp_law.specs.Lists.{Bytes}
use Rattle.pp_law.specs.Opening.{configured, is_at, may_fail, opened_to, settings_in, stuck, with_settings}
use Rattle.pp_conf.specs.Conf.{Settings}
use Rattle.pp_conf.specs.Words.{reading_of}
use Rattle.pp_law.specs.Permits.{IsPermitted, has_conn, is_new_number, may_dial, may_drop, may_open, may_shut, permits}
use Rattle.pp_law.specs.Phases.{come_to, come_to_decide, deciding, is_awaiting, is_done, is_free, may_in}
use Rattle.pp_law.specs.State.{State, Term, Phase, IsConfigured, IsListed, IsListening, IsRooted, IsStuck, Awaiting, Keeping, Deciding, Evicting, Connecting, DecidingAgain, Free, ReadOf, WriteTo, Client, start}
use Rattle.pp_law.specs.Store.{note_gone, note_kept}
use Rattle.pp_law.specs.Table.{forget}
use Rattle.pp_laws.specs.Runs.{IsIn, state_after}
use Rattle.pp_laws.proofs.Tests.{first_holds, same_number, second_holds}
use Rattle.pp_laws_bounds.proofs.Stops.{come_to-stopped}
use Rattle.pp_laws_coming.proofs.Permitted.{ended_owed, got_owed, heard_owed, hung_owed, said_owed, asked_owed}
use Rattle.pp_laws_coming.proofs.Stills.{gone-phase, got-phase, hang_up-phase, hear-phase, said-phase}
use Rattle.pp_laws_pool.proofs.Along.{Steps, after_all-append, along}
use Rattle.pp_laws_turn.proofs.Disk.{note_gone-keeps as note_gone-any, note_kept-keeps as note_kept-any}
use Rattle.pp_laws_turn.proofs.Happenings.{gate}
use Rattle.pp_laws_turn.proofs.Laws.{sound_turns}
use Rattle.pp_laws_turn.proofs.Lifts.{obeying}
use Rattle.pp_laws_turn.proofs.View.{Holds, facts_of, holds}
use Rattle.pp_laws_unused.proofs.Opened.{woken_unused}
use Rattle.pp_laws_unused.proofs.Seen.{gone_seen, kept_seen}
use Rattle.pp_laws_unused.proofs.Turning.{deciding_phase, phase_kept, taken_phase}
use Rattle.pp_laws_waits.proofs.Served.{any_in}
use Rattle.pp_law.proofs.Prefixes.{front_from}
use Rattle.pp_obeys.specs.Obeys.{Obeys}
use Rattle.pp_obeys.proofs.Frames.{Frame, frame, frame_of, stays}
use Rattle.pp_obeys.proofs.Obeying.{obeys_at_first}
use Rattle.pp_obeys.proofs.Settled.{at_phase, come_at}
use Rattle.pp_obeys.proofs.Silent.{permitted_wide}
use Rattle.pp_obeys.proofs.StaysTable.{close_client-stays}
use Rattle.pp_obeys.proofs.StaysTurns.{ask-stays, shut-stays, tick-frame}
use Rattle.pp_laws_left.specs.Bodies.{BodiesAreAwaited, EndsOwnBodies, LateBodiesAreOwned, LeftIsWhole, TurnsLeaveAll, UnseenBodiesGo}
use Rattle.pp_laws_left.proofs.Bodies.{left_with_bodies}
use Rattle.pp_laws_left.proofs.BodiesUnseen.{awaited_go}
use Rattle.pp_laws_left.proofs.BodiedDials.{shut-whose, undialled-whose}
use Rattle.pp_laws_left.proofs.BodiedChoices.{take_decision-fit}
use Rattle.pp_laws_left.proofs.BodiedFits.{Fit, ask-fit, close_client-fit, end_replies-fit, event-fit, gone-fit, hang_up-fit, hear-fit, said-fit, tick-fit}
use Rattle.pp_laws_left.proofs.BodiedLate.{Whose, dialled-whose, dropped-whose}
use Rattle.pp_laws_left.proofs.BodiedPhases.{dialled-fit, dropped-fit, opened-fit, reached-fit, shut-fit, undialled-fit}
use Rattle.pp_laws_left.proofs.BodiedReads.{got-fit}
use Rattle.pp_laws_left.proofs.BodiedWaits.{owned_of, waits_bodied}
use Rattle.pp_laws_left.proofs.BodiedStands.{Bodied, Same, is_event, is_last, Stood, begun_op_bodied, come_to_decide_stood, come_to_stood, ended_op_bodied, event_bodied, evicted_bodied, goes_as, handled_bodied, loaded_bodied, next_stood, no_event, none_bodied, off_bodied, opened_owed, owed_bodied, owing_fit, owing_whose, paid_bodied, reached_owed, refused_bodied, same_bodied, still_bodied, unread_bodied}
use Rattle.pp_laws_left.proofs.Keep.{AtEvent, Keeps, awaits, facts_of as keeps_of, keeps_same, owes}
use Rattle.pp_laws_left.proofs.KeepAsks.{placing-keeps}
use Rattle.pp_laws_left.proofs.OwnedEnds.{event_handles, handles, owned_on}
use Rattle.pp_laws_left.proofs.Readies.{dialled_frame, dropped_frame, undialled_frame}
use Rattle.pp_laws_left.proofs.SpokenHappenings.{dialled-keeps, dropped-keeps, undialled-keeps}
use Rattle.pp_laws_left.proofs.SpokenLaws.{obeys_to, owed_event}
use Rattle.pp_laws_left.proofs.Unended.{turns_may_end}

-- ---- in the phase of connections

closing_of : (a b : Bool) → (a || b) ≡ true → b ≡ false → a ≡ true
closing_of true b is off = refl
closing_of false true is off = absurd (cc off)
closing_of false false is off = absurd (cc is)

-- no event is handled there
quiet : (terms : List Term) (log : Log) (s t : State) → Obeys terms s log → s.phase ≡ Connecting → Keeps true s t → AtEvent t.phase t.owed → ⊥
quiet terms log s t obeys is q at = no_event terms s log obeys (ap is_event is) ((keeps_of q).event at)

module _ (terms : List Term) (log : Log) (u : State) (h : Stood terms log u) (at : u.phase ≡ Connecting) where
  shut_bodied : (n : ℕ) → list_any (may_shut u n) u.clients ≡ true → Bodied (shut n u)
  shut_bodied n may = record {
    fit = shut-fit n u h.bodied.fit;
    event = λ on. absurd (quiet_shut on);
    late = λ runs late. shut-whose terms u log h.obeys n (closing (going runs)) (h.bodied.late (going runs) (inl at));
  }
    where
      f : frame true (shut n u) ≡ frame true u
      f = frame_of {all = true} (shut-stays n u (stays refl))

      going : (shut n u).is_stopped ≡ false → u.is_stopped ≡ false
      going runs = sym (ap (λ (o : Frame). o.is_stopped) f) ∙ runs

      quiet_shut : AtEvent (shut n u).phase (shut n u).owed → ⊥
      quiet_shut (awaits is) = let both : Connecting ≡ Awaiting = sym at ∙ sym (ap (λ (o : Frame). o.phase) f) ∙ is in cc both
      quiet_shut (owes on) = no_event terms u log h.obeys (ap is_event at) (owes (ap (λ (o : Frame). is_free o.owed) (sym f) ∙ on))

      closing : u.is_stopped ≡ false → (c : Client) → IsIn c u.clients → c.number ≡ n → c.is_closing ≡ true
      closing runs c i number =
          let w = any_in (may_shut u n) u.clients may in
          let its : w.0.number ≡ n = same_number w.0.number n (first_holds (is_client n w.0) (w.0.is_closing || u.is_stopped) w.2) in
          let one : c ≡ w.0 = (facts_of (owned_on terms u log h.obeys)).callers c w.0 i w.1 (number ∙ sym its) in
          ap (λ (x : Client). x.is_closing) one ∙ closing_of w.0.is_closing u.is_stopped (second_holds (is_client n w.0) (w.0.is_closing || u.is_stopped) w.2) runs

  dialled_bodied : (n : ℕ) (host : Bytes) (port : ℕ) → Bodied (dialled n host port (placing u))
  dialled_bodied n host port = record {
    fit = dialled-fit n host port u h.bodied.fit;
    event = λ on. absurd (quiet terms log u (dialled n host port (placing u)) h.obeys at (dialled-keeps n host port (placing u) (placing-keeps u (keeps_same u))) on);
    late = λ runs late. dialled-whose n host port u (h.bodied.late (sym (dialled_frame n host port u).3 ∙ runs) (inl at));
  }

  undialled_bodied : Bodied (undialled (placing u))
  undialled_bodied = record {
    fit = undialled-fit u h.bodied.fit;
    event = λ on. absurd (quiet terms log u (undialled (placing u)) h.obeys at (undialled-keeps (placing u) (placing-keeps u (keeps_same u))) on);
    late = λ runs late. undialled-whose terms u log h.obeys h.bodied.fit (h.bodied.late (sym (undialled_frame u).3 ∙ runs) (inl at));
  }

  dropped_bodied : (n : ℕ) → Bodied (dropped n u)
  dropped_bodied n = record {
    fit = dropped-fit n u h.bodied.fit;
    event = λ on. absurd (quiet terms log u (dropped n u) h.obeys at (dropped-keeps n u (keeps_same u)) on);
    late = λ runs late. dropped-whose n u (h.bodied.late (sym (ap (λ (o : Frame). o.is_stopped) (dropped_frame n u)) ∙ runs) (inl at));
  }

-- ---- a row leaves

left_bodied : (terms : List Term) (log : Log) (how : Leaving) (s : State) → Stood terms log s → Bodied (leave_memory how s)
unfolding leave_memory forget
left_bodied terms log ForAnother s h = same_bodied (come_to Evicting s) _ refl refl refl refl (come_to_stood terms log Evicting s h).bodied
left_bodied terms log (ForMemory x) s h = refused_bodied x (come_to Evicting s) (come_to_stood terms log Evicting s h).bodied
left_bodied terms log (BeforeDecision x) s h = same_bodied (come_to_decide s) _ refl refl refl refl (come_to_decide_stood terms log s h).bodied

forgotten_bodied : (terms : List Term) (log : Log) (key : Bytes) (s : State) → Stood terms log s → Bodied (forgotten_by key s)
unfolding forgotten_by
forgotten_bodied terms log key s h = by (leaving_as s key)
  where
    by : (o : Option Leaving) → Bodied (elim o as (λ c. State) [ None ↦ s | Some how ↦ leave_memory how s ])
    by None = h.bodied
    by (Some how) = left_bodied terms log how s h

-- ---- decisions and cuts

deciding_fit : (terms : List Term) (log : Log) (s : State) → Stood terms log s → Holds Fit (deciding s)
unfolding deciding
deciding_fit terms log s h = holds (facts_of (come_to_decide_stood terms log s h).bodied.fit)

-- ---- an opening

opened_bodied : (p : Phase) (ok : Bool) (s : State) → is_event p ≡ false → is_last p ≡ false → Holds Fit s → (terms : List Term) (log : Log) → Obeys terms (opened_to p ok s) log → Bodied (opened_to p ok s)
unfolding opened_to stuck
opened_bodied p true s still early fit terms log obeys = off_bodied terms _ log obeys p refl still early (holds (facts_of fit))
opened_bodied p false s still early fit terms log obeys = off_bodied terms _ log obeys IsStuck refl refl refl (holds (facts_of fit))

set_bodied : (o : Option Settings) (s : State) → Holds Fit s → (terms : List Term) (log : Log) → Obeys terms (with_settings o s) log → Bodied (with_settings o s)
unfolding with_settings
set_bodied None s fit terms log obeys = off_bodied terms _ log obeys IsStuck refl refl refl (holds (facts_of fit))
set_bodied (Some c) s fit terms log obeys = off_bodied terms _ log obeys IsConfigured refl refl refl (holds (facts_of fit))

configured_bodied : (text : Option Bytes) (s : State) → Holds Fit s → (terms : List Term) (log : Log) → Obeys terms (configured text s) log → Bodied (configured text s)
unfolding configured stuck
configured_bodied None s fit terms log obeys = off_bodied terms _ log obeys IsStuck refl refl refl (holds (facts_of fit))
configured_bodied (Some text) s fit terms log obeys = set_bodied (settings_in (reading_of s.term.words (Some text))) s fit terms log obeys

-- ---- happening by happening

noted_bodied : (terms : List Term) (log : Log) (remark : Remark) (s : State) → permits s (Noted remark) ≡ true → Stood terms log s → Obeys terms (noted remark s) (log ++ Noted remark ∷ []) → Bodied (noted remark s)
unfolding noted permits
noted_bodied terms log (Taken c i d) s may h behind_ = off_bodied terms _ (log ++ Noted (Taken c i d) ∷ []) behind_ Deciding (taken_phase c d (deciding s) ∙ deciding_phase s) refl refl (take_decision-fit c d (deciding s) (deciding_fit terms log s h))
noted_bodied terms log (Cut c cause) s may h behind_ = off_bodied terms _ (log ++ Noted (Cut c cause) ∷ []) behind_ Deciding (phase_kept (deciding s) _ (close_client-stays c true (deciding s) (stays refl)) ∙ deciding_phase s) refl refl (close_client-fit c true (deciding s) (deciding_fit terms log s h))
noted_bodied terms log (Kept key tag n extent) s may h behind_ = still_bodied s (note_kept key extent s) (note_kept-any {P = Same s} key extent s (holds (refl, refl, refl))) (goes_as s (note_kept key extent s) (kept_seen key extent s)) h.bodied
noted_bodied terms log (Gone key) s may h behind_ = let u : State = come_to Keeping s in still_bodied u (note_gone key u) (note_gone-any {P = Same u} key u (holds (refl, refl, refl))) (goes_as u (note_gone key u) (gone_seen key u)) (come_to_stood terms log Keeping s h).bodied
noted_bodied terms log (Forgotten key) s may h behind_ = forgotten_bodied terms log key s h
noted_bodied terms log (Evicted key tag n i) s may h behind_ = evicted_bodied (come_to Evicting s) (come_to_stood terms log Evicting s h).bodied
noted_bodied terms log (Loaded key tag n i) s may h behind_ = loaded_bodied key i s h.bodied

-- where an event is awaited nothing is owed
free_at : (terms : List Term) (log : Log) (s : State) → Stood terms log s → is_awaiting s ≡ true → s.owed ≡ Free
free_at terms log s h on = ((sound_turns terms s log h.obeys).awaits (at_phase Awaiting s on)).free

whose_at : (terms : List Term) (log : Log) (s : State) → Stood terms log s → is_awaiting s ≡ true → Holds Whose s
whose_at terms log s h on = h.bodied.event (awaits (at_phase Awaiting s on))

stopping_fit : (s : State) → Holds Fit s → Holds Fit (record s { is_stopped = true })
stopping_fit s h = holds (facts_of h)

changed_bodied : (terms : List Term) (log : Log) (s : State) (h : Happening) → IsPermitted s h → permits s h ≡ true → Stood terms log s → Obeys terms (changed s h) (log ++ h ∷ []) → Bodied (changed s h)
unfolding changed permits
changed_bodied terms log s (Woke image) is may h behind_ = none_bodied _ (woken_unused image s).exchanges
changed_bodied terms log s (Waits w) is may h behind_ = waits_bodied terms log s w is h behind_
changed_bodied terms log s (Clock seconds) is may h behind_ = event_bodied _ (ap (λ (o : Frame). o.owed) (tick-frame false seconds s) ∙ free_at terms log s h may) (tick-fit seconds s h.bodied.fit)
changed_bodied terms log s (Opened n) is may h behind_ = event_bodied _ (opened_owed n s ∙ free_at terms log s h (first_holds (is_awaiting s) (may_open s n) may)) (opened-fit n s h.bodied.fit)
changed_bodied terms log s (CanRead n) is may h behind_ = owed_bodied _ (owing_fit (ReadOf n) n s h.bodied.fit) (owing_whose (ReadOf n) n s (whose_at terms log s h may))
changed_bodied terms log s (CanWrite n) is may h behind_ = owed_bodied _ (owing_fit (WriteTo n) n s h.bodied.fit) (owing_whose (WriteTo n) n s (whose_at terms log s h may))
changed_bodied terms log s (Heard c bytes) is may h behind_ = handled_bodied _ (hear-phase c bytes s ∙ handles terms s log c h.obeys (heard_owed s c bytes is)) (hear-fit c bytes s h.bodied.fit)
changed_bodied terms log s (HungUp c) is may h behind_ = handled_bodied _ (hang_up-phase c s ∙ handles terms s log c h.obeys (hung_owed s c is)) (hang_up-fit c s h.bodied.fit)
changed_bodied terms log s (Said c offered bytes) is may h behind_ = handled_bodied _ (said-phase c (length bytes) s ∙ handles terms s log c h.obeys (said_owed s c offered bytes is)) (said-fit c (length bytes) s h.bodied.fit)
changed_bodied terms log s (Shut c) is may h behind_ = shut_bodied terms log (come_to Connecting s) (come_to_stood terms log Connecting s h) (come_at Connecting (λ t. list_any (may_shut t c) t.clients) s may) c (gate (is_at Connecting (come_to Connecting s)) (list_any (may_shut (come_to Connecting s) c) (come_to Connecting s).clients) may).1
changed_bodied terms log s (Dialled n host port) is may h behind_ = dialled_bodied terms log (come_to Connecting s) (come_to_stood terms log Connecting s h) (come_at Connecting (λ t. may_dial t host port) s (second_holds (is_new_number s n) (may_in Connecting (λ t. may_dial t host port) s) may)) n host port
changed_bodied terms log s (Undialled host port) is may h behind_ = undialled_bodied terms log (come_to Connecting s) (come_to_stood terms log Connecting s h) (come_at Connecting (λ t. may_dial t host port) s (second_holds (may_fail s false) (may_in Connecting (λ t. may_dial t host port) s) may))
changed_bodied terms log s (Reached k) is may h behind_ = event_bodied _ (reached_owed k s ∙ free_at terms log s h (first_holds (is_awaiting s) (has_conn s k) may)) (reached-fit k s h.bodied.fit)
changed_bodied terms log s (Ended k) is may h behind_ = handled_bodied _ (gone-phase true k s ∙ handles terms s log k h.obeys (ended_owed s k is)) (gone-fit true k s h.bodied.fit)
changed_bodied terms log s (Broke k) is may h behind_ = handled_bodied _ (gone-phase false k (event s) ∙ event_handles s) (gone-fit false k (event s) (event-fit s h.bodied.fit))
changed_bodied terms log s (Asked k bytes) is may h behind_ = handled_bodied _ (phase_kept s _ (ask-stays k (length bytes) s (stays refl)) ∙ handles terms s log k h.obeys (asked_owed s k bytes is)) (ask-fit k (length bytes) s h.bodied.fit)
changed_bodied terms log s (Got k bytes) is may h behind_ = let at : AtEvent s.phase s.owed = owed_event s k (got_owed s k bytes is) in handled_bodied _ (got-phase (length bytes) k bytes s ∙ handles terms s log k h.obeys (got_owed s k bytes is)) (end_replies-fit _ (got-fit terms s log h.obeys k bytes at h.bodied.fit (h.bodied.event at)))
changed_bodied terms log s (Dropped k) is may h behind_ = dropped_bodied terms log (come_to Connecting s) (come_to_stood terms log Connecting s h) (come_at Connecting (λ t. may_drop t k) s may) k
changed_bodied terms log s (NoneYet n) is may h behind_ = paid_bodied s h.bodied
changed_bodied terms log s (Began op) is may h behind_ = begun_op_bodied terms log op s h
changed_bodied terms log s (Did op ok) is may h behind_ = ended_op_bodied op ok s h.bodied
changed_bodied terms log s (Unread name) is may h behind_ = unread_bodied name s h.bodied
changed_bodied terms log s (Noted remark) is may h behind_ = noted_bodied terms log remark s may h behind_
changed_bodied terms log s (Rooted folder) is may h behind_ = opened_bodied IsRooted true s refl refl h.bodied.fit terms _ behind_
changed_bodied terms log s (Listed ok) is may h behind_ = opened_bodied IsListed ok s refl refl h.bodied.fit terms _ behind_
changed_bodied terms log s (Listens port ok) is may h behind_ = opened_bodied IsListening ok s refl refl h.bodied.fit terms _ behind_
changed_bodied terms log s (Configured file text) is may h behind_ = configured_bodied text s h.bodied.fit terms _ behind_
changed_bodied terms log s (Printed text) is may h behind_ = h.bodied
changed_bodied terms log s Stopped is may h behind_ = event_bodied (record s { is_stopped = true }) (free_at terms log s h may) (stopping_fit s h.bodied.fit)

-- ---- along a log, and some phases on

bodied_steps : Steps Bodied
bodied_steps terms front h one now =
    let lawful : Lawful terms front = front_from (start terms) front (h ∷ []) one.lawful in
    let behind_ : Obeys terms (after (state_after terms front) h) (front ++ h ∷ []) = subst (λ (u : State). Obeys terms u (front ++ h ∷ [])) (after_all-append (start terms) front (h ∷ [])) (obeys_at_first terms (front ++ h ∷ []) one.lawful) in
    changed_bodied terms front (state_after terms front) h one.permitted (permitted_wide (state_after terms front) h one.permitted) (record { obeys = obeys_at_first terms front lawful; bodied = now }) behind_

bodied_at : (terms : List Term) (log : Log) → Lawful terms log → Bodied (state_after terms log)
bodied_at terms log lawful = along Bodied (λ t. none_bodied (start t) refl) bodied_steps terms log [] (subst (λ (l : Log). Lawful terms l) (sym (append-nil log)) lawful)

bodied_on : (terms : List Term) (s : State) (log : Log) → Obeys terms s log → Stood terms log s
bodied_on terms s log obeys = obeying (Stood terms log) (λ t done h. next_stood terms log t done h) terms s log obeys (record { obeys = obeys_at_first terms log obeys.lawful; bodied = bodied_at terms log obeys.lawful })

-- ---- the laws

pub bodies_are_awaited : BodiesAreAwaited
bodies_are_awaited terms s log obeys e i left = facts_of (bodied_on terms s log obeys).bodied.fit e i left

pub unseen_bodies_go : UnseenBodiesGo
unseen_bodies_go terms s log obeys runs = awaited_go terms s log obeys runs (bodies_are_awaited terms s log obeys)

pub late_bodies_are_owned : LateBodiesAreOwned
late_bodies_are_owned terms s log obeys runs late = owned_of s ((bodied_on terms s log obeys).bodied.late runs late)

pub ends_own_bodies : EndsOwnBodies
ends_own_bodies terms s log ends = late_bodies_are_owned terms (come_to DecidingAgain s) log (obeys_to DecidingAgain terms s log ends.obeys) (come_to-stopped DecidingAgain s ∙ ends.runs) (inr (come_at DecidingAgain is_done s ends.may))

pub left_is_whole : LeftIsWhole
left_is_whole terms s log ends = left_with_bodies terms s log ends (ends_own_bodies terms s log ends)

pub turns_leave_all : TurnsLeaveAll
turns_leave_all terms s log obeys none may runs = left_is_whole terms s log (turns_may_end terms s log obeys none may runs)
