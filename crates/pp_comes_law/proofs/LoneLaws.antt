-- The law: what goes alone and is not answered yet has its client, where an event is awaited and as long as what it asks for is owed.
use Rattle.std.proofs.Common.{◌≡◌, ◌⊎◌, refl, ℕ, Bool, true, false, not, is_some, ◌||◌, List, [], ◌∷◌, ◌++◌, length, Option, Some, None, inl, inr, sym, subst, ap, ◌∙◌}
use Rattle.std.proofs.lemmas.List.{append-nil}
use Rattle.std.specs.List.{list_any}
use Rattle.pp_world.specs.Log.{Log}
use Rattle.pp_world.specs.declared.happening.Happening.{Happening}
use Rattle.pp_world.specs.declared.happening.Happening.TheVariants.{Woke, Waits, Clock, Opened, CanRead, CanWrite, Heard, HungUp, Said, Shut, Dialled, Undialled, Reached, Ended, Broke, Asked, Got, Dropped, NoneYet, Began, Did, Unread, Noted, Rooted, Listed, Listens, Configured, Printed, Stopped}
use Rattle.pp_world.specs.declared.note.Remark.{Remark}
use Rattle.pp_world.specs.declared.note.Remark.TheVariants.{Taken, Cut, Kept as KeptOnDisk, Gone, Forgotten, Evicted, Loaded}
use Rattle.pp_law.specs.After.{after, changed, dialled, dropped, event, forgotten_by, leave_memory, noted, shut, undialled}
use Rattle.pp_law.specs.Connections.{is_client, placing}
use Rattle.pp_law.specs.Lawful.{Lawful}
use Rattle.pp_law.specs.Leaving.{Leaving, ForAnother, ForMemory, BeforeDecision, leaving_as}
use Rattle.pp_law.specs.Lists.{Bytes}
use Rattle.pp_law.specs.Opening.{configured, is_at, may_fail, opened_to, settings_in, stuck, with_settings}
use Rattle.pp_conf.specs.Conf.{Settings}
use Rattle.pp_conf.specs.Words.{reading_of}
use Rattle.pp_law.specs.Permits.{IsPermitted, has_conn, is_new_number, may_dial, may_drop, may_open, may_shut, permits}
use Rattle.pp_law.specs.Phases.{come_to, come_to_decide, deciding, is_awaiting, is_free, may_in}
use Rattle.pp_law.specs.State.{State, Term, Phase, IsConfigured, IsListed, IsListening, IsRooted, IsStuck, Awaiting, Keeping, Deciding, Evicting, Connecting, Free, ReadOf, WriteTo, Client, Exchange, start}
use Rattle.pp_law.specs.Stages.{is_pending}
use Rattle.pp_law.specs.Store.{note_gone, note_kept}
use Rattle.pp_law.specs.Table.{forget}
use Rattle.pp_laws.specs.Runs.{IsIn, state_after}
use Rattle.pp_laws.proofs.Tests.{first_holds, same_number, second_holds}
use Rattle.pp_laws_coming.proofs.Permitted.{ended_owed, got_owed, heard_owed, hung_owed, said_owed, asked_owed}
use Rattle.pp_laws_coming.proofs.Stills.{gone-phase, got-phase, hang_up-phase, hear-phase, said-phase}
use Rattle.pp_laws_pool.proofs.Along.{Steps, after_all-append, along}
use Rattle.pp_laws_turn.proofs.Disk.{note_gone-keeps as note_gone-any, note_kept-keeps as note_kept-any}
use Rattle.pp_laws_turn.proofs.Happenings.{gate}
use Rattle.pp_laws_turn.proofs.Laws.{sound_turns}
use Rattle.pp_laws_turn.proofs.Lifts.{obeying}
use Rattle.pp_laws_turn.proofs.View.{Holds, facts_of, holds}
use Rattle.pp_laws_unused.proofs.Opened.{woken_unused}
use Rattle.pp_laws_unused.proofs.Seen.{gone_seen, kept_seen}
use Rattle.pp_laws_unused.proofs.Turning.{deciding_phase, phase_kept, taken_phase}
use Rattle.pp_laws_waits.proofs.Served.{any_in}
use Rattle.pp_law.proofs.Prefixes.{front_from}
use Rattle.pp_obeys.specs.Obeys.{Obeys}
use Rattle.pp_obeys.proofs.Frames.{Frame, frame, frame_of, stays}
use Rattle.pp_obeys.proofs.Obeying.{obeys_at_first}
use Rattle.pp_obeys.proofs.Settled.{at_phase, come_at}
use Rattle.pp_obeys.proofs.Silent.{permitted_wide}
use Rattle.pp_obeys.proofs.StaysTable.{close_client-stays}
use Rattle.pp_obeys.proofs.StaysTurns.{ask-stays, shut-stays, tick-frame}
use Rattle.pp_laws_turn.specs.SoundTurn.{HasAsker}
use Rattle.pp_laws_left.proofs.BodiedStands.{Same, goes_as, is_event, is_last, no_event, opened_owed, reached_owed}
use Rattle.pp_laws_left.proofs.Keep.{AtEvent, Keeps, awaits, facts_of as keeps_of, keeps_same, owes}
use Rattle.pp_laws_left.proofs.KeepAsks.{placing-keeps}
use Rattle.pp_laws_left.proofs.OwnedEnds.{event_handles, handles, owned_on}
use Rattle.pp_laws_left.proofs.Readies.{dialled_frame, dropped_frame, undialled_frame}
use Rattle.pp_laws_left.proofs.SpokenHappenings.{dialled-keeps, dropped-keeps, undialled-keeps}
use Rattle.pp_answers_law.specs.Disproving.{HasClient}
use Rattle.pp_comes_law.specs.Lone.{AwaitedLoneGoWithClients}
use Rattle.pp_comes_law.proofs.LoneDials.{shut-whose, undialled-whose}
use Rattle.pp_comes_law.proofs.LoneLate.{Whose, dialled-whose, dropped-whose}
use Rattle.pp_comes_law.proofs.LoneStands.{Kept, Stood, begun_op_kept, come_to_decide_stood, come_to_stood, ended_op_kept, event_kept, evicted_kept, handled_kept, loaded_kept, next_stood, none_kept, off_kept, owed_kept, owing_whose, paid_kept, refused_kept, same_kept, still_kept, unread_kept}
use Rattle.pp_comes_law.proofs.LoneWaits.{waits_kept}
use Rattle.pp_comes_law.proofs.Lones.{lone_by}

-- ---- in the phase of connections

closing_of : (a b : Bool) → (a || b) ≡ true → b ≡ false → a ≡ true
closing_of true b is off = refl
closing_of false true is off = absurd (cc off)
closing_of false false is off = absurd (cc is)

-- no event is handled there
quiet : (terms : List Term) (log : Log) (s t : State) → Obeys terms s log → s.phase ≡ Connecting → Keeps true s t → AtEvent t.phase t.owed → ⊥
quiet terms log s t obeys is q at = no_event terms s log obeys (ap is_event is) ((keeps_of q).event at)

module _ (terms : List Term) (log : Log) (u : State) (h : Stood terms log u) (at : u.phase ≡ Connecting) where
  shut_kept : (n : ℕ) → list_any (may_shut u n) u.clients ≡ true → Kept (shut n u)
  shut_kept n may = record {
    event = λ on. absurd (quiet_shut on);
    late = λ runs late. shut-whose terms u log h.obeys n (closing (going runs)) (h.kept.late (going runs) (inl at));
  }
    where
      f : frame true (shut n u) ≡ frame true u
      f = frame_of {all = true} (shut-stays n u (stays refl))

      going : (shut n u).is_stopped ≡ false → u.is_stopped ≡ false
      going runs = sym (ap (λ (o : Frame). o.is_stopped) f) ∙ runs

      quiet_shut : AtEvent (shut n u).phase (shut n u).owed → ⊥
      quiet_shut (awaits is) = let both : Connecting ≡ Awaiting = sym at ∙ sym (ap (λ (o : Frame). o.phase) f) ∙ is in cc both
      quiet_shut (owes on) = no_event terms u log h.obeys (ap is_event at) (owes (ap (λ (o : Frame). is_free o.owed) (sym f) ∙ on))

      closing : u.is_stopped ≡ false → (c : Client) → IsIn c u.clients → c.number ≡ n → c.is_closing ≡ true
      closing runs c i number =
          let w = any_in (may_shut u n) u.clients may in
          let its : w.0.number ≡ n = same_number w.0.number n (first_holds (is_client n w.0) (w.0.is_closing || u.is_stopped) w.2) in
          let one : c ≡ w.0 = (facts_of (owned_on terms u log h.obeys)).callers c w.0 i w.1 (number ∙ sym its) in
          ap (λ (x : Client). x.is_closing) one ∙ closing_of w.0.is_closing u.is_stopped (second_holds (is_client n w.0) (w.0.is_closing || u.is_stopped) w.2) runs

  dialled_kept : (n : ℕ) (host : Bytes) (port : ℕ) → Kept (dialled n host port (placing u))
  dialled_kept n host port = record {
    event = λ on. absurd (quiet terms log u (dialled n host port (placing u)) h.obeys at (dialled-keeps n host port (placing u) (placing-keeps u (keeps_same u))) on);
    late = λ runs late. dialled-whose n host port u (h.kept.late (sym (dialled_frame n host port u).3 ∙ runs) (inl at));
  }

  undialled_kept : Kept (undialled (placing u))
  undialled_kept = record {
    event = λ on. absurd (quiet terms log u (undialled (placing u)) h.obeys at (undialled-keeps (placing u) (placing-keeps u (keeps_same u))) on);
    late = λ runs late. undialled-whose terms u log h.obeys (h.kept.late (sym (undialled_frame u).3 ∙ runs) (inl at));
  }

  dropped_kept : (n : ℕ) → Kept (dropped n u)
  dropped_kept n = record {
    event = λ on. absurd (quiet terms log u (dropped n u) h.obeys at (dropped-keeps n u (keeps_same u)) on);
    late = λ runs late. dropped-whose n u (h.kept.late (sym (ap (λ (o : Frame). o.is_stopped) (dropped_frame n u)) ∙ runs) (inl at));
  }

-- ---- a row leaves

left_kept : (terms : List Term) (log : Log) (how : Leaving) (s : State) → Stood terms log s → Kept (leave_memory how s)
unfolding leave_memory forget
left_kept terms log ForAnother s h = same_kept (come_to Evicting s) _ refl refl refl refl (come_to_stood terms log Evicting s h).kept
left_kept terms log (ForMemory x) s h = refused_kept x (come_to Evicting s) (come_to_stood terms log Evicting s h).kept
left_kept terms log (BeforeDecision x) s h = same_kept (come_to_decide s) _ refl refl refl refl (come_to_decide_stood terms log s h).kept

forgotten_kept : (terms : List Term) (log : Log) (key : Bytes) (s : State) → Stood terms log s → Kept (forgotten_by key s)
unfolding forgotten_by
forgotten_kept terms log key s h = by (leaving_as s key)
  where
    by : (o : Option Leaving) → Kept (elim o as (λ c. State) [ None ↦ s | Some how ↦ leave_memory how s ])
    by None = h.kept
    by (Some how) = left_kept terms log how s h

-- ---- an opening

opened_kept : (p : Phase) (ok : Bool) (s : State) → is_event p ≡ false → is_last p ≡ false → (terms : List Term) (log : Log) → Obeys terms (opened_to p ok s) log → Kept (opened_to p ok s)
unfolding opened_to stuck
opened_kept p true s still early terms log obeys = off_kept terms _ log obeys p refl still early
opened_kept p false s still early terms log obeys = off_kept terms _ log obeys IsStuck refl refl refl

set_kept : (o : Option Settings) (s : State) → (terms : List Term) (log : Log) → Obeys terms (with_settings o s) log → Kept (with_settings o s)
unfolding with_settings
set_kept None s terms log obeys = off_kept terms _ log obeys IsStuck refl refl refl
set_kept (Some c) s terms log obeys = off_kept terms _ log obeys IsConfigured refl refl refl

configured_kept : (text : Option Bytes) (s : State) → (terms : List Term) (log : Log) → Obeys terms (configured text s) log → Kept (configured text s)
unfolding configured stuck
configured_kept None s terms log obeys = off_kept terms _ log obeys IsStuck refl refl refl
configured_kept (Some text) s terms log obeys = set_kept (settings_in (reading_of s.term.words (Some text))) s terms log obeys

-- ---- happening by happening

noted_kept : (terms : List Term) (log : Log) (remark : Remark) (s : State) → permits s (Noted remark) ≡ true → Stood terms log s → Obeys terms (noted remark s) (log ++ Noted remark ∷ []) → Kept (noted remark s)
unfolding noted permits
noted_kept terms log (Taken c i d) s may h behind_ = off_kept terms _ (log ++ Noted (Taken c i d) ∷ []) behind_ Deciding (taken_phase c d (deciding s) ∙ deciding_phase s) refl refl
noted_kept terms log (Cut c cause) s may h behind_ = off_kept terms _ (log ++ Noted (Cut c cause) ∷ []) behind_ Deciding (phase_kept (deciding s) _ (close_client-stays c true (deciding s) (stays refl)) ∙ deciding_phase s) refl refl
noted_kept terms log (KeptOnDisk key tag n extent) s may h behind_ = still_kept s (note_kept key extent s) (note_kept-any {P = Same s} key extent s (holds (refl, refl, refl))) (goes_as s (note_kept key extent s) (kept_seen key extent s)) h.kept
noted_kept terms log (Gone key) s may h behind_ = let u : State = come_to Keeping s in still_kept u (note_gone key u) (note_gone-any {P = Same u} key u (holds (refl, refl, refl))) (goes_as u (note_gone key u) (gone_seen key u)) (come_to_stood terms log Keeping s h).kept
noted_kept terms log (Forgotten key) s may h behind_ = forgotten_kept terms log key s h
noted_kept terms log (Evicted key tag n i) s may h behind_ = evicted_kept (come_to Evicting s) (come_to_stood terms log Evicting s h).kept
noted_kept terms log (Loaded key tag n i) s may h behind_ = loaded_kept key i s h.kept

-- where an event is awaited nothing is owed
free_at : (terms : List Term) (log : Log) (s : State) → Stood terms log s → is_awaiting s ≡ true → s.owed ≡ Free
free_at terms log s h on = ((sound_turns terms s log h.obeys).awaits (at_phase Awaiting s on)).free

whose_at : (terms : List Term) (log : Log) (s : State) → Stood terms log s → is_awaiting s ≡ true → Holds Whose s
whose_at terms log s h on = h.kept.event (awaits (at_phase Awaiting s on))

changed_kept : (terms : List Term) (log : Log) (s : State) (h : Happening) → IsPermitted s h → permits s h ≡ true → Stood terms log s → Obeys terms (changed s h) (log ++ h ∷ []) → Kept (changed s h)
unfolding changed permits
changed_kept terms log s (Woke image) is may h behind_ = none_kept _ (woken_unused image s).exchanges
changed_kept terms log s (Waits w) is may h behind_ = waits_kept terms log s w is h
changed_kept terms log s (Clock seconds) is may h behind_ = event_kept _ (ap (λ (o : Frame). o.owed) (tick-frame false seconds s) ∙ free_at terms log s h may)
changed_kept terms log s (Opened n) is may h behind_ = event_kept _ (opened_owed n s ∙ free_at terms log s h (first_holds (is_awaiting s) (may_open s n) may))
changed_kept terms log s (CanRead n) is may h behind_ = owed_kept _ (owing_whose (ReadOf n) n s (whose_at terms log s h may))
changed_kept terms log s (CanWrite n) is may h behind_ = owed_kept _ (owing_whose (WriteTo n) n s (whose_at terms log s h may))
changed_kept terms log s (Heard c bytes) is may h behind_ = handled_kept _ (hear-phase c bytes s ∙ handles terms s log c h.obeys (heard_owed s c bytes is))
changed_kept terms log s (HungUp c) is may h behind_ = handled_kept _ (hang_up-phase c s ∙ handles terms s log c h.obeys (hung_owed s c is))
changed_kept terms log s (Said c offered bytes) is may h behind_ = handled_kept _ (said-phase c (length bytes) s ∙ handles terms s log c h.obeys (said_owed s c offered bytes is))
changed_kept terms log s (Shut c) is may h behind_ = shut_kept terms log (come_to Connecting s) (come_to_stood terms log Connecting s h) (come_at Connecting (λ t. list_any (may_shut t c) t.clients) s may) c (gate (is_at Connecting (come_to Connecting s)) (list_any (may_shut (come_to Connecting s) c) (come_to Connecting s).clients) may).1
changed_kept terms log s (Dialled n host port) is may h behind_ = dialled_kept terms log (come_to Connecting s) (come_to_stood terms log Connecting s h) (come_at Connecting (λ t. may_dial t host port) s (second_holds (is_new_number s n) (may_in Connecting (λ t. may_dial t host port) s) may)) n host port
changed_kept terms log s (Undialled host port) is may h behind_ = undialled_kept terms log (come_to Connecting s) (come_to_stood terms log Connecting s h) (come_at Connecting (λ t. may_dial t host port) s (second_holds (may_fail s false) (may_in Connecting (λ t. may_dial t host port) s) may))
changed_kept terms log s (Reached k) is may h behind_ = event_kept _ (reached_owed k s ∙ free_at terms log s h (first_holds (is_awaiting s) (has_conn s k) may))
changed_kept terms log s (Ended k) is may h behind_ = handled_kept _ (gone-phase true k s ∙ handles terms s log k h.obeys (ended_owed s k is))
changed_kept terms log s (Broke k) is may h behind_ = handled_kept _ (gone-phase false k (event s) ∙ event_handles s)
changed_kept terms log s (Asked k bytes) is may h behind_ = handled_kept _ (phase_kept s _ (ask-stays k (length bytes) s (stays refl)) ∙ handles terms s log k h.obeys (asked_owed s k bytes is))
changed_kept terms log s (Got k bytes) is may h behind_ = handled_kept _ (got-phase (length bytes) k bytes s ∙ handles terms s log k h.obeys (got_owed s k bytes is))
changed_kept terms log s (Dropped k) is may h behind_ = dropped_kept terms log (come_to Connecting s) (come_to_stood terms log Connecting s h) (come_at Connecting (λ t. may_drop t k) s may) k
changed_kept terms log s (NoneYet n) is may h behind_ = paid_kept s h.kept
changed_kept terms log s (Began op) is may h behind_ = begun_op_kept terms log op s h
changed_kept terms log s (Did op ok) is may h behind_ = ended_op_kept op ok s h.kept
changed_kept terms log s (Unread name) is may h behind_ = unread_kept name s h.kept
changed_kept terms log s (Noted remark) is may h behind_ = noted_kept terms log remark s may h behind_
changed_kept terms log s (Rooted folder) is may h behind_ = opened_kept IsRooted true s refl refl terms _ behind_
changed_kept terms log s (Listed ok) is may h behind_ = opened_kept IsListed ok s refl refl terms _ behind_
changed_kept terms log s (Listens port ok) is may h behind_ = opened_kept IsListening ok s refl refl terms _ behind_
changed_kept terms log s (Configured file text) is may h behind_ = configured_kept text s terms _ behind_
changed_kept terms log s (Printed text) is may h behind_ = h.kept
changed_kept terms log s Stopped is may h behind_ = event_kept (record s { is_stopped = true }) (free_at terms log s h may)

-- ---- along a log, and some phases on

kept_steps : Steps Kept
kept_steps terms front h one now =
    let lawful : Lawful terms front = front_from (start terms) front (h ∷ []) one.lawful in
    let behind_ : Obeys terms (after (state_after terms front) h) (front ++ h ∷ []) = subst (λ (u : State). Obeys terms u (front ++ h ∷ [])) (after_all-append (start terms) front (h ∷ [])) (obeys_at_first terms (front ++ h ∷ []) one.lawful) in
    changed_kept terms front (state_after terms front) h one.permitted (permitted_wide (state_after terms front) h one.permitted) (record { obeys = obeys_at_first terms front lawful; kept = now }) behind_

kept_at : (terms : List Term) (log : Log) → Lawful terms log → Kept (state_after terms log)
kept_at terms log lawful = along Kept (λ t. none_kept (start t) refl) kept_steps terms log [] (subst (λ (l : Log). Lawful terms l) (sym (append-nil log)) lawful)

kept_on : (terms : List Term) (s : State) (log : Log) → Obeys terms s log → Stood terms log s
kept_on terms s log obeys = obeying (Stood terms log) (λ t done h. next_stood terms log t done h) terms s log obeys (record { obeys = obeys_at_first terms log obeys.lawful; kept = kept_at terms log obeys.lawful })

-- ---- the law

pub lone_at_events : (terms : List Term) (s : State) (log : Log) → Obeys terms s log → AtEvent s.phase s.owed → Holds Whose s
lone_at_events terms s log obeys at = (kept_on terms s log obeys).kept.event at

pub client_in : (s : State) (e : Exchange) → ((n : ℕ) → e.asker ≡ Some n → HasAsker s e n) → (o : Option ℕ) → e.asker ≡ o → is_some e.asker ≡ true → HasClient s e
client_in s e asks None is some = let both : false ≡ true = sym (ap (λ (o : Option ℕ). is_some o) is) ∙ some in absurd (cc both)
client_in s e asks (Some n) is some = let a = asks n is in record { number = n; client = a.asker; asker = is; there = a.there }

pub lone_go_with_clients : AwaitedLoneGoWithClients
lone_go_with_clients terms s log obeys at e i through unheaded alone =
    client_in s e (λ n is. (sound_turns terms s log obeys).askers e n i is) e.asker refl (facts_of (lone_at_events terms s log obeys (event_at at)) e i (lone_by e alone through (still_pending (is_pending e.body) unheaded)))
  where
    event_at : (s.phase ≡ Awaiting) ⊎ (is_free s.owed ≡ false) → AtEvent s.phase s.owed
    event_at (inl is) = awaits is
    event_at (inr on) = owes on

    still_pending : (b : Bool) → not b ≡ false → b ≡ true
    still_pending true is = refl
    still_pending false is = absurd (cc is)
