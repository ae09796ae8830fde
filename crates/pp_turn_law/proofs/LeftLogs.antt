-- Along a lawful log the same stands under each name by the log and by the law's disk, and names on which something failed are closed.
use Rattle.std.proofs.Common.{◌≡◌, ◌⊎◌, inl, inr, refl, sym, ap, subst, ◌∙◌, ℕ, zero, suc, Bool, true, false, ◌||◌, List, [], ◌∷◌, ◌++◌, Option, Some, None}
use Rattle.std.proofs.lemmas.List.{append-nil, append_assoc}
use Rattle.std.specs.Prelude.{fold}
use Rattle.pp_law.specs.After.{after, changed, ended_op, unread}
use Rattle.pp_law.specs.Lawful.{LawfulFrom}
use Rattle.pp_law.specs.Lists.{Bytes, has_text}
use Rattle.pp_law.specs.Permits.{IsPermitted, permits}
use Rattle.pp_law.specs.Phases.{next}
use Rattle.pp_law.specs.State.{State, Term, IsListed, IsListening, IsRooted, start}
use Rattle.pp_law.specs.Store.{is_closed, is_of_draft, may_end_op}
use Rattle.pp_laws.proofs.Happenings.{after-sound}
use Rattle.pp_laws.proofs.Laws.{start-sound}
use Rattle.pp_laws.proofs.Sound.{Sound}
use Rattle.pp_laws.proofs.Tests.{first_holds}
use Rattle.pp_laws.specs.Runs.{after_all, state_after}
use Rattle.pp_laws_crash.proofs.CrashLaws.{one_step, since, start_inv}
use Rattle.pp_laws_crash.proofs.Frames.{parts_of}
use Rattle.pp_laws_crash.proofs.Going.{Goes, Midst}
use Rattle.pp_laws_crash.proofs.Happenings.{changed_kept, permitted}
use Rattle.pp_laws_crash.proofs.Inv.{Busy, is_shut, goes_on, same_or}
use Rattle.pp_laws_crash.proofs.Frames.{recovers}
use Rattle.pp_laws_crash.proofs.Steps.{Inv, under_is}
use Rattle.pp_laws_crash.proofs.Views.{began_failed, done_failed, other_done, other_name, other_undone, view_more}
use Rattle.pp_laws_crash.specs.Changes.{changes_disk}
use Rattle.pp_obeys.proofs.Frames.{Frame}
use Rattle.pp_obeys.proofs.StaysTurns.{next-frame}
use Rattle.pp_obeys.specs.Obeys.{AreDone, phases_on}
use Rattle.pp_turn_law.proofs.LeftAlike.{began_as, done_draft, draft_undone, or_none, same_view, undone_as}
use Rattle.pp_turn_law.proofs.LeftClosed.{begun_closed, configured_closed, done_closed, failed_open, gone_closed, kept_closed, opened_closed, unread_open}
use Rattle.pp_turn_law.specs.Left.{CrashesLeaveTheDisk, FailedNamesAreClosed, FilesStandAsLogged, StandsAs}
use Rattle.pp_shelf_law.proofs.Disks.{disks, files}
use Rattle.pp_shelf_law.specs.Folder.{disk_of, disk_with}
use Rattle.pp_world.specs.Disk.{LeavesOne, Stored, View, done, undone, view_after, view_of}
use Rattle.pp_world.specs.Files.{Files, file_of}
use Rattle.pp_world.specs.Log.{Log}
use Rattle.pp_world.specs.declared.happening.Happening.{Happening}
use Rattle.pp_world.specs.declared.happening.Happening.TheVariants.{Woke, Waits, Clock, Opened, CanRead, CanWrite, Heard, HungUp, Said, Shut, Dialled, Undialled, Reached, Ended, Broke, Asked, Got, Dropped, NoneYet, Began, Did, Unread, Noted, Rooted, Listed, Listens, Configured, Printed, Stopped}
use Rattle.pp_world.specs.declared.note.Remark.TheVariants.{Taken, Cut, Kept, Gone, Forgotten, Evicted, Loaded}
use Rattle.pp_world.specs.declared.op.DiskOp.{DiskOp}

record Alike (s : State) (log : Log) : Type 0 where
  sound : (name : Bytes) → has_text name s.closed_names ≡ false → (view_of name log).failed ≡ false
  same : (name : Bytes) → StandsAs (view_of name (disk_of log)) (view_of name log)

-- ---- one happening more

disk_more : (disk log : Log) (h : Happening) → fold disk_with disk (log ++ h ∷ []) ≡ disk_with (fold disk_with disk log) h
disk_more disk [] h = refl
disk_more disk (k ∷ log) h = disk_more (disk_with disk k) log h

alike_with : (t : State) (log : Log) (h : Happening)
    → ((name : Bytes) → has_text name t.closed_names ≡ false → (view_after name (view_of name log) h).failed ≡ false)
    → ((name : Bytes) → StandsAs (view_of name (disk_with (disk_of log) h)) (view_after name (view_of name log) h)) → Alike t (log ++ h ∷ [])
alike_with t log h sound same = record {
  sound = λ name open_is. ap (λ (u : View). u.failed) (view_more name log h) ∙ sound name open_is;
  same = λ name. subst (λ (disk : Log). StandsAs (view_of name disk) (view_of name (log ++ h ∷ []))) (sym (disk_more [] log h))
      (subst (λ (u : View). StandsAs (view_of name (disk_with (disk_of log) h)) u) (sym (view_more name log h)) (same name));
}

-- one that neither has
passed : (s t : State) (log : Log) (h : Happening) → t.closed_names ≡ s.closed_names → ((disk : Log) → disk_with disk h ≡ disk) → ((name : Bytes) (v : View) → view_after name v h ≡ v) → Alike s log → Alike t (log ++ h ∷ [])
passed s t log h closed none still alike = alike_with t log h
    (λ name open_is. ap (λ (u : View). u.failed) (still name (view_of name log)) ∙ alike.sound name (ap (has_text name) (sym closed) ∙ open_is))
    (λ name. subst (λ (disk : Log). StandsAs (view_of name disk) (view_after name (view_of name log) h)) (sym (none (disk_of log))) (subst (StandsAs (view_of name (disk_of log))) (sym (still name (view_of name log))) (alike.same name)))

-- and one that both have
shared : (name : Bytes) (disk log : Log) (h : Happening) → StandsAs (view_after name (view_of name disk) h) (view_after name (view_of name log) h) → StandsAs (view_of name (disk ++ h ∷ [])) (view_after name (view_of name log) h)
shared name disk log h so = subst (λ (u : View). StandsAs u (view_after name (view_of name log) h)) (sym (view_more name disk h)) so

-- ---- an operation

-- it is on the name that its agenda has, which is open
record IsOnOpen (s : State) (op : DiskOp) : Type 0 where
  open_is : has_text s.agenda.name s.closed_names ≡ false
  midst : Midst s.sent (recovers s.phase) s.entries s.agenda.name s.agenda.todo op (view_of s.agenda.name s.disk)

on_open : (s : State) (op : DiskOp) → Inv s → s.under_way ≡ Some op → IsOnOpen s op
on_open s op h under = by s.under_way under h.disk.busy
  where
    by : (u : Option DiskOp) → u ≡ Some op → Busy s.sent s.disk s.agenda u s.closed_names (recovers s.phase) s.entries → IsOnOpen s op
    by u is (is_shut closed none idle) = let both : Some op ≡ None = sym is ∙ idle in absurd (cc both)
    by u is (goes_on still on g) = record { open_is = still; midst = subst (λ (w : Option DiskOp). Goes s.sent (recovers s.phase) s.entries s.agenda.name s.agenda.todo w (view_of s.agenda.name s.disk)) is g }

began_alike : (s t : State) (log : Log) (op : DiskOp) → t.closed_names ≡ s.closed_names → Alike s log → Alike t (log ++ Began op ∷ [])
began_alike s t log op closed alike = alike_with t log (Began op)
    (λ name open_is. began_failed name op (view_of name log) ∙ alike.sound name (ap (has_text name) (sym closed) ∙ open_is))
    (λ name. shared name (disk_of log) log (Began op) (began_as name op (view_of name (disk_of log)) (view_of name log) (alike.same name)))

done_alike : (s t : State) (log : Log) (op : DiskOp) → t.closed_names ≡ s.closed_names → IsOnOpen s op → Alike s log → Alike t (log ++ Did op true ∷ [])
done_alike s t log op closed on alike = alike_with t log (Did op true)
    (λ name open_is. done_failed name op (view_of name log) ∙ alike.sound name (ap (has_text name) (sym closed) ∙ open_is))
    (λ name. shared name (disk_of log) log (Did op true) (same_or name s.agenda.name (on_it name) (beside name)))
  where
    on_it : (name : Bytes) → name ≡ s.agenda.name → StandsAs (done name op (view_of name (disk_of log))) (done name op (view_of name log))
    on_it name is = same_view (ap (λ (v : View). done name op v) (files log name (alike.sound name (ap (λ (n : Bytes). has_text n s.closed_names) is ∙ on.open_is))))

    beside : (name : Bytes) → (name ≡ s.agenda.name → ⊥) → StandsAs (done name op (view_of name (disk_of log))) (done name op (view_of name log))
    beside name differ =
        let v : View = view_of name (disk_of log) in
        let w : View = view_of name log in
        let both = alike.same name in
        record {
          slot = other_done s.agenda.name name op v on.midst.on (λ is. differ (sym is)) ∙ both.slot ∙ sym (other_done s.agenda.name name op w on.midst.on (λ is. differ (sym is)));
          draft = done_draft name op v w both.draft;
        }

undone_alike : (s : State) (log : Log) (op : DiskOp) → IsOnOpen s op → Alike s log → Alike (ended_op op false s) (log ++ Did op false ∷ [])
undone_alike s log op on alike = alike_with (ended_op op false s) log (Did op false)
    (λ name open_is. let was = failed_open op s name open_is in still name was.how ∙ alike.sound name was.was)
    (λ name. shared name (disk_of log) log (Did op false) (undone_as name op (view_of name (disk_of log)) (view_of name log) (alike.same name)))
  where
    still : (name : Bytes) → (is_of_draft op ≡ true) ⊎ (name ≡ s.agenda.name → ⊥) → (undone name op (view_of name log)).failed ≡ (view_of name log).failed
    still name (inl drafts) = draft_undone name op (view_of name log) drafts
    still name (inr differ) = other_undone s.agenda.name name op (view_of name log) on.midst.on (λ is. differ (sym is))

did_alike : (s : State) (log : Log) (op : DiskOp) (ok : Bool) → Inv s → may_end_op s op ≡ true → Alike s log → Alike (ended_op op ok s) (log ++ Did op ok ∷ [])
did_alike s log op true inv may alike = done_alike s (ended_op op true s) log op (done_closed op s) (on_open s op inv (under_is op s.under_way may)) alike
did_alike s log op false inv may alike = undone_alike s log op (on_open s op inv (under_is op s.under_way may)) alike

-- ---- a life begins, and a name is not read

woke_alike : (t : State) (log : Log) (image : Files) → Alike t (log ++ Woke image ∷ [])
woke_alike t log image = alike_with t log (Woke image)
    (λ name open_is. refl)
    (λ name. same_view (view_more name [] (Woke image)))

unread_alike : (s : State) (log : Log) (n : Bytes) → Alike s log → Alike (unread n s) (log ++ Unread n ∷ [])
unread_alike s log n alike = alike_with (unread n s) log (Unread n)
    (λ name open_is. let was = unread_open n s name open_is in
    ap (λ (b : Bool). (view_of name log).failed || b) (other_name n name (λ is. was.0 (sym is))) ∙ or_none (view_of name log).failed ∙ alike.sound name was.1)
    (λ name. let both = alike.same name in record { slot = both.slot; draft = both.draft })

-- ---- each happening

-- one that changes nothing of the disk
quiet_alike : (s : State) (log : Log) (h : Happening) → Inv s → IsPermitted s h → changes_disk h ≡ false → ((disk : Log) → disk_with disk h ≡ disk) → ((name : Bytes) (v : View) → view_after name v h ≡ v) → Alike s log → Alike (after s h) (log ++ h ∷ [])
quiet_alike s log h inv may quiet none still alike = passed s (after s h) log h (parts_of (changed_kept s inv.owed h quiet may)).closed_is none still alike

one_alike : (s : State) (log : Log) (h : Happening) → Inv s → IsPermitted s h → Alike s log → Alike (after s h) (log ++ h ∷ [])
unfolding changed permits
one_alike s log (Woke image) inv may alike = woke_alike _ log image
one_alike s log (Waits w) inv may alike = quiet_alike s log (Waits w) inv may refl (λ disk. refl) (λ name v. refl) alike
one_alike s log (Clock seconds) inv may alike = quiet_alike s log (Clock seconds) inv may refl (λ disk. refl) (λ name v. refl) alike
one_alike s log (Opened n) inv may alike = quiet_alike s log (Opened n) inv may refl (λ disk. refl) (λ name v. refl) alike
one_alike s log (CanRead n) inv may alike = quiet_alike s log (CanRead n) inv may refl (λ disk. refl) (λ name v. refl) alike
one_alike s log (CanWrite n) inv may alike = quiet_alike s log (CanWrite n) inv may refl (λ disk. refl) (λ name v. refl) alike
one_alike s log (Heard c bytes) inv may alike = quiet_alike s log (Heard c bytes) inv may refl (λ disk. refl) (λ name v. refl) alike
one_alike s log (HungUp c) inv may alike = quiet_alike s log (HungUp c) inv may refl (λ disk. refl) (λ name v. refl) alike
one_alike s log (Said c offered bytes) inv may alike = quiet_alike s log (Said c offered bytes) inv may refl (λ disk. refl) (λ name v. refl) alike
one_alike s log (Shut c) inv may alike = quiet_alike s log (Shut c) inv may refl (λ disk. refl) (λ name v. refl) alike
one_alike s log (Dialled n host port) inv may alike = quiet_alike s log (Dialled n host port) inv may refl (λ disk. refl) (λ name v. refl) alike
one_alike s log (Undialled host port) inv may alike = quiet_alike s log (Undialled host port) inv may refl (λ disk. refl) (λ name v. refl) alike
one_alike s log (Reached k) inv may alike = quiet_alike s log (Reached k) inv may refl (λ disk. refl) (λ name v. refl) alike
one_alike s log (Ended k) inv may alike = quiet_alike s log (Ended k) inv may refl (λ disk. refl) (λ name v. refl) alike
one_alike s log (Broke k) inv may alike = quiet_alike s log (Broke k) inv may refl (λ disk. refl) (λ name v. refl) alike
one_alike s log (Asked k bytes) inv may alike = quiet_alike s log (Asked k bytes) inv may refl (λ disk. refl) (λ name v. refl) alike
one_alike s log (Got k bytes) inv may alike = quiet_alike s log (Got k bytes) inv may refl (λ disk. refl) (λ name v. refl) alike
one_alike s log (Dropped k) inv may alike = quiet_alike s log (Dropped k) inv may refl (λ disk. refl) (λ name v. refl) alike
one_alike s log (NoneYet n) inv may alike = quiet_alike s log (NoneYet n) inv may refl (λ disk. refl) (λ name v. refl) alike
one_alike s log (Began op) inv may alike = began_alike s _ log op (begun_closed op s) alike
one_alike s log (Did op ok) inv may alike = did_alike s log op ok inv (first_holds (may_end_op s op) _ (permitted s (Did op ok) refl may)) alike
one_alike s log (Unread n) inv may alike = unread_alike s log n alike
one_alike s log (Noted (Taken c i d)) inv may alike = quiet_alike s log (Noted (Taken c i d)) inv may refl (λ disk. refl) (λ name v. refl) alike
one_alike s log (Noted (Cut c cause)) inv may alike = quiet_alike s log (Noted (Cut c cause)) inv may refl (λ disk. refl) (λ name v. refl) alike
one_alike s log (Noted (Forgotten key)) inv may alike = quiet_alike s log (Noted (Forgotten key)) inv may refl (λ disk. refl) (λ name v. refl) alike
one_alike s log (Noted (Evicted key tag n i)) inv may alike = quiet_alike s log (Noted (Evicted key tag n i)) inv may refl (λ disk. refl) (λ name v. refl) alike
one_alike s log (Noted (Loaded key tag n i)) inv may alike = quiet_alike s log (Noted (Loaded key tag n i)) inv may refl (λ disk. refl) (λ name v. refl) alike
one_alike s log (Noted (Kept key tag n extent)) inv may alike = passed s _ log (Noted (Kept key tag n extent)) (kept_closed key tag n extent s) (λ disk. refl) (λ name v. refl) alike
one_alike s log (Noted (Gone key)) inv may alike = passed s _ log (Noted (Gone key)) (gone_closed key s) (λ disk. refl) (λ name v. refl) alike
one_alike s log (Rooted folder) inv may alike = passed s _ log (Rooted folder) (opened_closed IsRooted true s) (λ disk. refl) (λ name v. refl) alike
one_alike s log (Listed ok) inv may alike = passed s _ log (Listed ok) (opened_closed IsListed ok s) (λ disk. refl) (λ name v. refl) alike
one_alike s log (Listens port ok) inv may alike = passed s _ log (Listens port ok) (opened_closed IsListening ok s) (λ disk. refl) (λ name v. refl) alike
one_alike s log (Configured file text) inv may alike = passed s _ log (Configured file text) (configured_closed text s) (λ disk. refl) (λ name v. refl) alike
one_alike s log (Printed text) inv may alike = passed s s log (Printed text) refl (λ disk. refl) (λ name v. refl) alike
one_alike s log Stopped inv may alike = quiet_alike s log Stopped inv may refl (λ disk. refl) (λ name v. refl) alike

-- ---- all

first_alike : (terms : List Term) → Alike (start terms) []
unfolding view_of
first_alike terms = record { sound = λ name open_is. refl; same = λ name. same_view refl }

all_alike : (s : State) (front rest : Log) → LawfulFrom s rest → Sound since s → Inv s → Alike s front → Alike (after_all s rest) (front ++ rest)
all_alike s front [] lawful so inv alike = subst (Alike s) (sym (append-nil front)) alike
all_alike s front (h ∷ rest) lawful so inv alike =
    let step = one_step s h lawful.0 so inv in
    subst (Alike (after_all (after s h) rest)) (append_assoc front (h ∷ []) rest)
    (all_alike (after s h) (front ++ h ∷ []) rest lawful.1 (after-sound s h refl (λ counts. step.0) lawful.0 so) step.1 (one_alike s front h inv lawful.0 alike))

lawful_alike : (terms : List Term) (log : Log) → LawfulFrom (start terms) log → Alike (state_after terms log) log
lawful_alike terms log lawful = all_alike (start terms) [] log lawful (start-sound since terms refl) (start_inv terms) (first_alike terms)

-- ---- the laws

on_closed : (n : ℕ) (s t : State) → AreDone n s → phases_on n s ≡ t → t.closed_names ≡ s.closed_names
on_closed zero s t done there = ap (λ (u : State). u.closed_names) (sym there)
on_closed (suc n) s t done there = on_closed n (next s) t done.1 there ∙ ap (λ (o : Frame). o.closed_names) (next-frame false s)

pub closed : FailedNamesAreClosed
closed terms s log name obeys failed = by (is_closed s name) refl
  where
    was : has_text name (state_after terms log).closed_names ≡ has_text name s.closed_names
    was = ap (has_text name) (sym (on_closed obeys.goes.phases (state_after terms log) s obeys.goes.done obeys.goes.there))

    by : (b : Bool) → is_closed s name ≡ b → is_closed s name ≡ true
    by true is = is
    by false is = let both : true ≡ false = sym failed ∙ (lawful_alike terms log obeys.lawful).sound name (was ∙ is) in absurd (cc both)

pub stand : FilesStandAsLogged
stand terms s log name obeys = subst (λ (disk : Log). StandsAs (view_of name disk) (view_of name log)) (sym (disks terms s log obeys)) ((lawful_alike terms log obeys.lawful).same name)

pub left : CrashesLeaveTheDisk
left terms s log image obeys = record {
  to = λ behind name. subst (λ (slot : List (Option Stored)). LeavesOne slot (file_of name image)) (sym (stand terms s log name obeys).slot) (behind name);
  back = λ behind name. subst (λ (slot : List (Option Stored)). LeavesOne slot (file_of name image)) (stand terms s log name obeys).slot (behind name);
}
