-- Each happening keeps it.
use Rattle.std.proofs.Common.{◌≡◌, refl, ℕ, true, false, length, None, ap, ◌∙◌}
use Rattle.pp_world.specs.declared.happening.Happening.TheVariants.{Woke, Waits, Clock, Opened, CanRead, CanWrite, Heard, HungUp, Said, Shut, Dialled, Undialled, Reached, Ended, Broke, Asked, Got, Dropped, NoneYet, Began, Did, Unread, Noted, Rooted, Listed, Listens, Configured, Printed, Stopped}
use Rattle.pp_world.specs.declared.happening.Happening.{Happening}
use Rattle.pp_world.specs.declared.note.Remark.TheVariants.{Taken, Cut, Kept, Gone, Forgotten, Evicted, Loaded}
use Rattle.pp_world.specs.declared.note.Remark.{Remark}
use Rattle.pp_law.specs.After.{after, changed, event, noted}
use Rattle.pp_law.specs.Closing.{close_client}
use Rattle.pp_law.specs.Permits.{IsPermitted, may_take}
use Rattle.pp_law.specs.Phases.{come_to_decide, decides, deciding}
use Rattle.pp_law.specs.State.{State, IsListed, IsListening, IsRooted, Evicting, Handling, Keeping, Connecting, ReadOf, WriteTo}
use Rattle.pp_law.specs.Turn.{rest_with}
use Rattle.pp_laws.proofs.Sound.{Since, Sound}
use Rattle.pp_laws_turn.proofs.Disk.{note_gone-keeps, note_kept-keeps}
use Rattle.pp_laws_turn.proofs.Happenings.{asked_placed, gate, taken_so}
use Rattle.pp_laws_turn.proofs.Kept.{Turn}
use Rattle.pp_laws_turn.proofs.View.{Holds, facts_of, holds, is_late}
use Rattle.pp_laws_coming.proofs.Phases.{AtPhase, at_so, come_to-comes, deciding-comes, early_of, ending-comes}
use Rattle.pp_laws_coming.proofs.Steps.{rest_with-comes, tick-comes}
use Rattle.pp_world.specs.declared.event.Wants.{Wants}
use Rattle.pp_law.specs.Replies.{regained}
use Rattle.pp_laws_coming.proofs.Stills.{ask-phase, close_client-phase, gone-phase, got-phase, hang_up-phase, hear-phase, owed_early, said-phase}
use Rattle.pp_laws_coming.proofs.Clients.{close_client-comes}
use Rattle.pp_laws_coming.proofs.Ended.{end_replies-comes}
use Rattle.pp_laws_coming.proofs.Events.{event-comes, gone-comes, opened-comes, owed-comes, owing-comes, paid-comes, reached-comes, said-comes}
use Rattle.pp_laws_coming.proofs.Facts.{Early}
use Rattle.pp_laws_coming.proofs.Got.{got-comes}
use Rattle.pp_laws_coming.proofs.Notes.{begun_op-comes, configured-comes, ended_op-comes, evicted-comes, forgotten_by-comes, load-comes, opened_to-comes, take_decision-comes, unread-comes, woken-comes}
use Rattle.pp_laws_coming.proofs.Permitted.{asked_owed, cut_decides, ended_owed, got_owed, heard_owed, hung_owed, opened_above, said_owed}
use Rattle.pp_laws_coming.proofs.Places.{dialled-comes, dropped-comes, shut-comes, undialled-comes}
use Rattle.pp_laws_coming.proofs.Said.{ask-comes, hang_up-comes, hear-comes}
use Rattle.pp_laws_coming.proofs.Taken.{taken_rests}

-- ---- all

deciding_late : (s : State) → is_late (deciding s).phase ≡ true
unfolding deciding
deciding_late s = refl

event_phase : (s : State) → (event s).phase ≡ Handling
unfolding event regained
event_phase s = refl

cut_comes : (c : ℕ) (s : State) → decides (come_to_decide s) ≡ true → Holds AtPhase s → Holds AtPhase (close_client c true (deciding s))
cut_comes c s on h = at_so true _ (ap is_late (close_client-phase c true (deciding s)) ∙ deciding_late s) (close_client-comes c true _ (deciding-comes s on h))

noted-comes : {b : Since} (remark : Remark) (s : State) → Sound b s → IsPermitted s (Noted remark) → Holds AtPhase s → Holds AtPhase (noted remark s)
unfolding noted
noted-comes (Taken c i d) s was is h =
    let may = taken_so s c i d is in
    let on = (gate (decides (come_to_decide s)) (may_take (come_to_decide s) c i d) may).0 in
    take_decision-comes c d _ (deciding_late s) (λ x found. taken_rests s c i d x was may found) (deciding-comes s on h)
noted-comes (Cut c cause) s was is h = cut_comes c s (cut_decides s c cause is) h
noted-comes (Kept key tag n extent) s was is h = note_kept-keeps key extent s h
noted-comes (Gone key) s was is h = note_gone-keeps key _ (come_to-comes Keeping s h)
noted-comes (Forgotten key) s was is h = forgotten_by-comes key s h
noted-comes (Evicted key tag n i) s was is h = evicted-comes _ (come_to-comes Evicting s h)
noted-comes (Loaded key tag n i) s was is h = load-comes key i s h

waits-comes : (w : Wants) (s : State) → Holds Early s → Holds AtPhase (rest_with w s)
unfolding rest_with
waits-comes w s h = at_so false (rest_with w s) refl (rest_with-comes w s h)

changed-comes : {b : Since} (s : State) (h : Happening) → b.excepts ≡ None → Sound b s → Holds Turn s → IsPermitted s h → Holds AtPhase s → Holds AtPhase (changed s h)
unfolding changed
changed-comes s (Woke image) none was turn is h = woken-comes image s
changed-comes s (Waits w) none was turn is h = waits-comes w _ (ending-comes s h)
changed-comes s (Clock seconds) none was turn is h = event-comes _ (tick-comes seconds s (early_of s h))
changed-comes s (Opened n) none was turn is h = event-comes _ (opened-comes n s (opened_above s n is) was turn (early_of s h))
changed-comes s (CanRead n) none was turn is h = event-comes _ (owing-comes (ReadOf n) n s (early_of s h))
changed-comes s (CanWrite n) none was turn is h = event-comes _ (owing-comes (WriteTo n) n s (early_of s h))
changed-comes s (Heard c bytes) none was turn is h = owed-comes s _ (owed_early s c turn (heard_owed s c bytes is)) (hear-phase c bytes s) (hear-comes c bytes s (early_of s h))
changed-comes s (HungUp c) none was turn is h = owed-comes s _ (owed_early s c turn (hung_owed s c is)) (hang_up-phase c s) (hang_up-comes c s (early_of s h))
changed-comes s (Said c offered bytes) none was turn is h = owed-comes s _ (owed_early s c turn (said_owed s c offered bytes is)) (said-phase c (length bytes) s) (said-comes c (length bytes) s (early_of s h))
changed-comes s (Shut c) none was turn is h = shut-comes c _ (come_to-comes Connecting s h)
changed-comes s (Dialled n host port) none was turn is h = dialled-comes n host port _ (come_to-comes Connecting s h)
changed-comes s (Undialled host port) none was turn is h = undialled-comes _ (come_to-comes Connecting s h)
changed-comes s (Reached n) none was turn is h = event-comes _ (reached-comes n s (early_of s h))
changed-comes s (Ended n) none was turn is h = owed-comes s _ (owed_early s n turn (ended_owed s n is)) (gone-phase true n s) (gone-comes true n s (early_of s h))
changed-comes s (Broke n) none was turn is h = owed-comes (event s) _ (ap is_late (event_phase s)) (gone-phase false n (event s)) (gone-comes false n _ (early_of _ (event-comes s (early_of s h))))
changed-comes s (Asked n bytes) none was turn is h =
    owed-comes s _ (owed_early s n turn (asked_owed s n bytes is)) (ask-phase n (length bytes) s (asked_placed s n was)) (ask-comes n (length bytes) s (asked_placed s n was) (early_of s h))
changed-comes s (Got n bytes) none was turn is h = owed-comes s _ (owed_early s n turn (got_owed s n bytes is)) (got-phase (length bytes) n bytes s) (end_replies-comes _ (got-comes (length bytes) n bytes s none was (early_of s h)))
changed-comes s (Dropped n) none was turn is h = dropped-comes n _ (come_to-comes Connecting s h)
changed-comes s (NoneYet n) none was turn is h = paid-comes s h
changed-comes s (Began op) none was turn is h = begun_op-comes op s h
changed-comes s (Did op ok) none was turn is h = ended_op-comes op ok s h
changed-comes s (Unread name) none was turn is h = unread-comes name s h
changed-comes s (Noted remark) none was turn is h = noted-comes remark s was is h
changed-comes s (Rooted folder) none was turn is h = opened_to-comes IsRooted true s refl (early_of s h)
changed-comes s (Listed ok) none was turn is h = opened_to-comes IsListed ok s refl (early_of s h)
changed-comes s (Listens port ok) none was turn is h = opened_to-comes IsListening ok s refl (early_of s h)
changed-comes s (Configured file text) none was turn is h = configured-comes text s (early_of s h)
changed-comes s (Printed text) none was turn is h = h
changed-comes s Stopped none was turn is h = event-comes _ (holds (facts_of (early_of s h)))

pub after-comes : {b : Since} (s : State) (h : Happening) → b.excepts ≡ None → Sound b s → Holds Turn s → IsPermitted s h → Holds AtPhase s → Holds AtPhase (after s h)
after-comes s h none was turn is coming = changed-comes s h none was turn is coming
