-- The laws: no reply that was said whole goes on, and one that is passed has its response.
use Rattle.std.proofs.Common.{◌≡◌, refl, ℕ, Bool, true, false, ◌<◌, ◌≤◌, not, ◌==◌, ◌&&◌, ◌||◌, map, List, [], ◌∷◌, length, is_some, Option, Some, None, sym, subst, ap, ◌∙◌, arith}
use Rattle.std.proofs.lemmas.List.{append-nil}
use Rattle.pp_conf.specs.Conf.{Settings}
use Rattle.pp_conf.specs.Words.{reading_of}
use Rattle.pp_world.specs.Log.{Log}
use Rattle.pp_world.specs.declared.event.Wants.{Wants}
use Rattle.pp_world.specs.declared.happening.Happening.{Happening}
use Rattle.pp_world.specs.declared.happening.Happening.TheVariants.{Woke, Waits, Clock, Opened, CanRead, CanWrite, Heard, HungUp, Said, Shut, Dialled, Undialled, Reached, Ended, Broke, Asked, Got, Dropped, NoneYet, Began, Did, Unread, Noted, Rooted, Listed, Listens, Configured, Printed, Stopped}
use Rattle.pp_world.specs.declared.note.Remark.{Remark}
use Rattle.pp_world.specs.declared.note.Remark.TheVariants.{Taken, Cut, Kept, Gone, Forgotten, Evicted, Loaded}
use Rattle.pp_law.specs.After.{changed, new_client, noted, opened, owing, paid}
use Rattle.pp_law.specs.Lawful.{Lawful}
use Rattle.pp_law.specs.Lists.{Bytes}
use Rattle.pp_law.specs.Opening.{configured, is_at, is_recovered, is_same_phase, may_fail, opened_to, permits_configured, permits_listens, permits_rooted, settings_in, stuck, with_settings}
use Rattle.pp_law.specs.Permits.{IsPermitted, is_owed, is_permitted, may_open, may_take, may_wait, permits, permits_taken, permits_waits}
use Rattle.pp_law.specs.Phases.{come_to, come_to_decide, decides, ending, is_awaiting, is_done, is_free, may_end, phases}
use Rattle.pp_law.specs.Served.{is_served}
use Rattle.pp_law.specs.State.{State, Term, Phase, IsWoken, IsConfigured, Awaiting, Handling, Evicting, Keeping, Deciding, Connecting, DecidingAgain, IsListed, IsListening, IsRooted, Owed, Free, ReadOf, WriteTo, Client, start}
use Rattle.pp_laws.specs.Numbers.{AreRising}
use Rattle.pp_laws.specs.Runs.{IsIn, state_after}
use Rattle.pp_laws.proofs.Lists.{rise_push}
use Rattle.pp_laws.proofs.Sound.{Since, Sound, client_number, facts_of as sound_facts}
use Rattle.pp_laws.proofs.Tests.{first_holds, second_holds}
use Rattle.pp_laws_bounds.proofs.Stops.{come_to-stopped}
use Rattle.pp_laws_coming.proofs.Permitted.{ended_owed, got_owed, opened_above}
use Rattle.pp_laws_ends.proofs.Undecided.{Ends, ends_at}
use Rattle.pp_laws_pool.proofs.Along.{Steps, along}
use Rattle.pp_laws_replies.proofs.Usable.{permitted_taken}
use Rattle.pp_laws_room.proofs.Coming.{by_coming}
use Rattle.pp_laws_turn.specs.SoundTurn.{IsSoundTurn}
use Rattle.pp_laws_turn.proofs.Happenings.{gate}
use Rattle.pp_laws_turn.proofs.Laws.{sound_turns}
use Rattle.pp_laws_turn.proofs.Lifts.{obeying}
use Rattle.pp_law.proofs.Prefixes.{front_from}
use Rattle.pp_obeys.specs.Obeys.{Obeys}
use Rattle.pp_obeys.proofs.Come.{same_phase}
use Rattle.pp_obeys.proofs.Obeying.{log-good, obeys_at_first}
use Rattle.pp_laws_left.specs.Left.{EndsAreSpoken, TurnsAreSpoken}
use Rattle.pp_laws_left.proofs.Keep.{AtEvent, Keeps, facts_of as keeps_of, is_early, keeps, keeps_same, owes}
use Rattle.pp_laws_left.proofs.KeepAsks.{close_client-keeps, placing-keeps}
use Rattle.pp_laws_left.proofs.KeepRows.{load-keeps, note_gone-keeps, note_kept-keeps}
use Rattle.pp_laws_left.proofs.KeepTurns.{come_to-keeps, deciding-keeps, tick-keeps}
use Rattle.pp_laws_left.proofs.Laws.{ends_are_left, obeys_coming, turns_are_left}
use Rattle.pp_laws_left.proofs.Fresh.{fresh_at, none_due}
use Rattle.pp_laws_left.proofs.KeepHeads.{not_so}
use Rattle.pp_laws_left.proofs.Spoken.{Spoken, facts_of, none_in, spoken_on}
use Rattle.pp_laws_left.proofs.SpokenBegins.{IsFresh}
use Rattle.pp_laws_left.proofs.SpokenChoices.{taken_spoken}
use Rattle.pp_laws_left.proofs.SpokenHappenings.{ask-keeps, begun_op-keeps, broke-spoken, dialled-keeps, dropped-keeps, ended_op-keeps, event-keeps, evicted-keeps, forgotten_by-keeps, gone-spoken, got-spoken, hang_up-spoken, hear-spoken, nobody_spoken, opened-spoken, owing-spoken, paid-keeps, reached-keeps, said-spoken, shut-spoken, undialled-keeps, unread-keeps, waits-spoken, woken-spoken}
use Rattle.pp_laws_left.proofs.Turns.{fine_on}

-- ---- what is permitted

unhampered : (made : Option ℕ) (t : Bool) → (elim made as (λ x. Bool) [ Some who ↦ false | None ↦ t ]) ≡ true → t ≡ true
unhampered (Some who) t is = absurd (cc is)
unhampered None t is = is

pub can_read : (s : State) (n : ℕ) → IsPermitted s (CanRead n) → s.phase ≡ Awaiting
unfolding is_permitted permits
can_read s n is = sym (same_phase Awaiting s.phase (unhampered s.made_room_for (is_awaiting s) is))

pub can_write : (s : State) (n : ℕ) → IsPermitted s (CanWrite n) → s.phase ≡ Awaiting
unfolding is_permitted permits
can_write s n is = sym (same_phase Awaiting s.phase (unhampered s.made_room_for (is_awaiting s) is))

pub opens : (s : State) (n : ℕ) → IsPermitted s (Opened n) → s.phase ≡ Awaiting
unfolding is_permitted permits
opens s n is = sym (same_phase Awaiting s.phase (first_holds (is_awaiting s) (may_open s n) (unhampered s.made_room_for _ is)))

pub owed_event : (s : State) (n : ℕ) → is_owed s n ≡ true → AtEvent s.phase s.owed
owed_event s n is = owes (by s.owed is)
  where
    by : (owed : Owed) → is_owed (record s { owed = owed }) n ≡ true → is_free owed ≡ false
    by Free at = absurd (cc at)
    by (ReadOf m) at = refl
    by (WriteTo m) at = refl

-- what is decided is decided where nothing is owed
pub free_to_decide : (terms : List Term) (s : State) (log : Log) → Obeys terms s log → decides (come_to_decide s) ≡ true → is_free (come_to_decide s).owed ≡ true
unfolding come_to_decide
free_to_decide terms s log obeys on = by (is_free (come_to_decide s).owed) refl
  where
    t : IsSoundTurn (come_to_decide s)
    t = sound_turns terms (come_to_decide s) log (obeys_coming decides phases s obeys)

    handles : (p : Phase) → (come_to_decide s).phase ≡ p → p ≡ Handling → decides (come_to_decide s) ≡ false
    handles p at is = ap (λ (q : Phase). elim (is_same_phase Deciding q) as (λ x. Bool) [ true ↦ not (is_done (come_to_decide s)) | false ↦ is_same_phase DecidingAgain q ]) (at ∙ is)

    by : (b : Bool) → is_free (come_to_decide s).owed ≡ b → b ≡ true
    by true is = refl
    by false off = let both : true ≡ false = sym on ∙ handles (come_to_decide s).phase refl (t.owes off) in absurd (cc both)

pub obeys_to : (p : Phase) (terms : List Term) (s : State) (log : Log) → Obeys terms s log → Obeys terms (come_to p s) log
unfolding come_to
obeys_to p terms s log obeys = obeys_coming (is_at p) phases s obeys

-- ---- an opening

early_at : (p : Phase) (s : State) → is_early p ≡ true → is_at p s ≡ true → is_early s.phase ≡ true
early_at p s early at = ap is_early (sym (same_phase p s.phase at)) ∙ early

configures : (s : State) (file : Bytes) (text : Option Bytes) → IsPermitted s (Configured file text) → is_early s.phase ≡ true
unfolding is_permitted permits
configures s file text is = early_at IsWoken s refl (first_holds (is_at IsWoken s) _ (first_holds (permits_configured s file) (may_fail s (is_some text)) (unhampered s.made_room_for _ is)))

roots : (s : State) (folder : Bytes) → IsPermitted s (Rooted folder) → is_early s.phase ≡ true
unfolding is_permitted permits
roots s folder is = early_at IsConfigured s refl (first_holds (is_at IsConfigured s) _ (unhampered s.made_room_for (permits_rooted s folder) is))

lists : (s : State) (ok : Bool) → IsPermitted s (Listed ok) → is_early s.phase ≡ true
unfolding is_permitted permits
lists s ok is = early_at IsRooted s refl (first_holds (is_at IsRooted s) (may_fail s ok) (unhampered s.made_room_for _ is))

listens : (s : State) (port : ℕ) (ok : Bool) → IsPermitted s (Listens port ok) → is_early s.phase ≡ true
unfolding is_permitted permits
listens s port ok is = early_at IsListed s refl (first_holds (is_at IsListed s) (port == s.settings.port) (first_holds (is_at IsListed s && (port == s.settings.port)) (is_recovered s) (first_holds (permits_listens s port) (may_fail s ok) (unhampered s.made_room_for _ is))))

opened_none : (phase : Phase) (ok : Bool) (s : State) → s.clients ≡ [] → (opened_to phase ok s).clients ≡ []
unfolding opened_to stuck
opened_none phase true s none = none
opened_none phase false s none = none

configured_none : (text : Option Bytes) (s : State) → s.clients ≡ [] → (configured text s).clients ≡ []
unfolding configured stuck with_settings
configured_none None s none = none
configured_none (Some text) s none = by (settings_in (reading_of s.term.words (Some text)))
  where
    by : (o : Option Settings) → (with_settings o s).clients ≡ []
    by None = none
    by (Some c) = none

-- ---- where a turn ends

pub waits_by : (s : State) (w : Wants) → IsPermitted s (Waits w) → may_wait s ≡ true
unfolding is_permitted permits
waits_by s w is = by (may_wait s) (unhampered s.made_room_for (permits_waits s w) is)
  where
    by : (b : Bool) → (elim b as (λ x. Bool) [ true ↦ is_served (ending s) w | false ↦ false ]) ≡ true → b ≡ true
    by true at = refl
    by false at = absurd (cc at)

pub none_there : {s t : State} → Keeps true s t → s.clients ≡ [] → t.clients ≡ []
none_there q none = none_in client_number _ _ (keeps_of q).numbers none

pub fresh_to_wait : (terms : List Term) (s : State) (log : Log) (w : Wants) → Obeys terms s log → IsPermitted s (Waits w) → Spoken true s → (c : Client) → IsIn c (come_to DecidingAgain s).clients → IsFresh c
fresh_to_wait terms s log w obeys is h c i = by (is_at IsListening s) refl (waits_by s w is)
  where
    by : (b : Bool) → is_at IsListening s ≡ b → (b || (not s.is_stopped && may_end s)) ≡ true → IsFresh c
    by true at may =
        let none : s.clients ≡ [] = (facts_of h).nobody (early_at IsListening s refl at) in
        absurd (subst (λ cs. IsIn c cs) (none_there (come_to-keeps DecidingAgain s (keeps_same s)) none) i)
    by false at may =
        fresh_at terms (come_to DecidingAgain s) log (obeys_to DecidingAgain terms s log obeys) (come_to-stopped DecidingAgain s ∙ not_so s.is_stopped (first_holds (not s.is_stopped) (may_end s) may)) c i
        (none_due s (second_holds (not s.is_stopped) (may_end s) may) c i)

-- ---- happening by happening

paid_on : (s : State) → Spoken true s → Spoken true (paid s)
paid_on s h = spoken_on s _ (paid-keeps s (keeps_same s)) h

noted_spoken : (terms : List Term) (log : Log) (remark : Remark) (s : State) → Obeys terms s log → IsPermitted s (Noted remark) → Spoken true s → Spoken true (noted remark s)
unfolding noted
noted_spoken terms log (Taken c i d) s obeys is h =
    let may : permits_taken s c i d ≡ true = permitted_taken s c i d is in
    taken_spoken c i d s may (free_to_decide terms s log obeys (gate (decides (come_to_decide s)) (may_take (come_to_decide s) c i d) may).0) h
noted_spoken terms log (Cut c cause) s obeys is h = spoken_on s _ (close_client-keeps c true _ (deciding-keeps s (keeps_same s))) h
noted_spoken terms log (Kept key tag n extent) s obeys is h = spoken_on s _ (note_kept-keeps key extent s (keeps_same s)) h
noted_spoken terms log (Gone key) s obeys is h = spoken_on s _ (note_gone-keeps key _ (come_to-keeps Keeping s (keeps_same s))) h
noted_spoken terms log (Forgotten key) s obeys is h = spoken_on s _ (forgotten_by-keeps key s (keeps_same s)) h
noted_spoken terms log (Evicted key tag n i) s obeys is h = spoken_on s _ (evicted-keeps _ (come_to-keeps Evicting s (keeps_same s))) h
noted_spoken terms log (Loaded key tag n i) s obeys is h = spoken_on s _ (load-keeps key i s (keeps_same s)) h

changed_by : {b : Since} (terms : List Term) (log : Log) (s : State) (h : Happening) → Obeys terms s log → Sound b s → IsPermitted s h → Spoken true s → Spoken true (changed s h)
unfolding changed ending opened
changed_by terms log s (Woke image) obeys hs is h = woken-spoken image s
changed_by terms log s (Waits w) obeys hs is h =
    waits-spoken w (come_to DecidingAgain s) (fine_on terms (come_to DecidingAgain s) log (obeys_to DecidingAgain terms s log obeys)) (ends_are_left terms s log obeys) (fresh_to_wait terms s log w obeys is h) (spoken_on s _ (come_to-keeps DecidingAgain s (keeps_same s)) h)
changed_by terms log s (Clock seconds) obeys hs is h = spoken_on s _ (event-keeps _ (tick-keeps seconds s (keeps_same s))) h
changed_by terms log s (Opened n) obeys hs is h = spoken_on (opened n s) _ (event-keeps _ (keeps_same (opened n s))) (opened-spoken n s (opens s n is) rise h)
  where
    lower : (c : Client) → IsIn c s.clients → c.number < n
    lower c i = let le : c.number ≤ s.top = (sound_facts hs).callers.given c i in let lt : s.top < n = opened_above s n is in omega arith

    rise : AreRising (map client_number (opened n s).clients)
    rise = rise_push client_number s.clients (new_client n s.clock) (sound_facts hs).callers.rise lower
changed_by terms log s (CanRead n) obeys hs is h = spoken_on (owing (ReadOf n) n s) _ (event-keeps _ (keeps_same _)) (owing-spoken (ReadOf n) n s (can_read s n is) h)
changed_by terms log s (CanWrite n) obeys hs is h = spoken_on (owing (WriteTo n) n s) _ (event-keeps _ (keeps_same _)) (owing-spoken (WriteTo n) n s (can_write s n is) h)
changed_by terms log s (Heard c bytes) obeys hs is h = paid_on _ (hear-spoken c bytes s h)
changed_by terms log s (HungUp c) obeys hs is h = paid_on _ (hang_up-spoken c s h)
changed_by terms log s (Said c offered bytes) obeys hs is h = paid_on _ (said-spoken c (length bytes) s h)
changed_by terms log s (Shut c) obeys hs is h = shut-spoken c _ (spoken_on s _ (come_to-keeps Connecting s (keeps_same s)) h)
changed_by terms log s (Dialled n host port) obeys hs is h = spoken_on s _ (dialled-keeps n host port _ (placing-keeps _ (come_to-keeps Connecting s (keeps_same s)))) h
changed_by terms log s (Undialled host port) obeys hs is h = spoken_on s _ (undialled-keeps _ (placing-keeps _ (come_to-keeps Connecting s (keeps_same s)))) h
changed_by terms log s (Reached k) obeys hs is h = spoken_on s _ (event-keeps _ (reached-keeps k s (keeps_same s))) h
changed_by terms log s (Ended k) obeys hs is h = paid_on _ (gone-spoken true k s (owed_event s k (ended_owed s k is)) h)
changed_by terms log s (Broke k) obeys hs is h = paid_on _ (broke-spoken k _ (spoken_on s _ (event-keeps s (keeps_same s)) h))
changed_by terms log s (Asked k bytes) obeys hs is h = spoken_on s _ (paid-keeps _ (ask-keeps k (length bytes) s (keeps_same s))) h
changed_by terms log s (Got k bytes) obeys hs is h = paid_on _ (got-spoken (length bytes) k bytes s (owed_event s k (got_owed s k bytes is)) h)
changed_by terms log s (Dropped k) obeys hs is h = spoken_on s _ (dropped-keeps k _ (come_to-keeps Connecting s (keeps_same s))) h
changed_by terms log s (NoneYet n) obeys hs is h = paid_on s h
changed_by terms log s (Began op) obeys hs is h = spoken_on s _ (begun_op-keeps op s (keeps_same s)) h
changed_by terms log s (Did op ok) obeys hs is h = spoken_on s _ (ended_op-keeps op ok s (keeps_same s)) h
changed_by terms log s (Unread name) obeys hs is h = spoken_on s _ (unread-keeps name s (keeps_same s)) h
changed_by terms log s (Noted remark) obeys hs is h = noted_spoken terms log remark s obeys is h
changed_by terms log s (Rooted folder) obeys hs is h = nobody_spoken _ (opened_none IsRooted true s ((facts_of h).nobody (roots s folder is)))
changed_by terms log s (Listed ok) obeys hs is h = nobody_spoken _ (opened_none IsListed ok s ((facts_of h).nobody (lists s ok is)))
changed_by terms log s (Listens port ok) obeys hs is h = nobody_spoken _ (opened_none IsListening ok s ((facts_of h).nobody (listens s port ok is)))
changed_by terms log s (Configured file text) obeys hs is h = nobody_spoken _ (configured_none text s ((facts_of h).nobody (configures s file text is)))
changed_by terms log s (Printed text) obeys hs is h = h
changed_by terms log s Stopped obeys hs is h = spoken_on s _ (event-keeps (record s { is_stopped = true }) (keeps (keeps_of (keeps_same s)))) h

-- ---- along a log, and some phases on

spoken_steps : Steps (Spoken true)
spoken_steps terms front h one now =
    let lawful : Lawful terms front = front_from (start terms) front (h ∷ []) one.lawful in
    changed_by terms front (state_after terms front) h (obeys_at_first terms front lawful) (log-good terms front lawful).sound one.permitted now

spoken_at : (terms : List Term) (log : Log) → Lawful terms log → Spoken true (state_after terms log)
spoken_at terms log lawful = along (Spoken true) (λ t. nobody_spoken (start t) refl) spoken_steps terms log [] (subst (λ (l : Log). Lawful terms l) (sym (append-nil log)) lawful)

pub spoken_on_log : (terms : List Term) (s : State) (log : Log) → Obeys terms s log → Spoken true s
spoken_on_log terms s log obeys = obeying (Spoken true) (by_coming (Spoken true) (λ p t h. spoken_on t _ (come_to-keeps p t (keeps_same t)) h)) terms s log obeys (spoken_at terms log obeys.lawful)

pub turns_are_spoken : TurnsAreSpoken
turns_are_spoken terms s log obeys =
    let f = facts_of (spoken_on_log terms s log obeys) in
    let l = turns_are_left terms s log obeys in
    record {
      unsaid = λ c i runs. (f.all c i).unsaid refl runs;
      replies = λ c r i runs at. l.replies c r i at (λ on. (f.all c i).passed runs r (at, on));
    }

pub ends_are_spoken : EndsAreSpoken
unfolding come_to
ends_are_spoken terms s log ends =
    let at : Ends (come_to DecidingAgain s) = ends_at terms s log ends.obeys ends.early ends.may ends.runs in
    let w = turns_are_spoken terms (come_to DecidingAgain s) log (obeys_coming (is_at DecidingAgain) phases s ends.obeys) in
    record { unsaid = λ c i. w.unsaid c i (at.going c i); replies = λ c r i stood. w.replies c r i (at.going c i) stood }
