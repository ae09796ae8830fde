-- The law: the folder has few files, whatever a crash leaves.
use Rattle.std.proofs.Common.{◌≡◌, refl, ℕ, ◌≤◌, Bool, true, false, not, ◌&&◌, List, [], ◌∷◌, length, map, nat_le, Option, Some, None, inl, inr, subst, ap, arith}
use Rattle.std.specs.Prelude.{is_some}
use Rattle.std.proofs.lemmas.Bool.Decides.{nat_tests}
use Rattle.pp_conf.specs.Conf.{Settings}
use Rattle.pp_conf.specs.Words.{reading_of}
use Rattle.pp_recover.proofs.NameLemmas.{Distinct, distinct}
use Rattle.pp_text.specs.Bytes.{is_empty}
use Rattle.pp_world.specs.Disk.{LeavesOne, is_rising, view_of}
use Rattle.pp_world.specs.Files.{Files, file_of}
use Rattle.pp_world.specs.Log.{Log}
use Rattle.pp_world.specs.declared.happening.Happening.{Happening}
use Rattle.pp_world.specs.declared.happening.Happening.TheVariants.{Woke, Waits, Clock, Opened, CanRead, CanWrite, Heard, HungUp, Said, Shut, Dialled, Undialled, Reached, Ended, Broke, Asked, Got, Dropped, NoneYet, Began, Did, Unread, Noted, Rooted, Listed, Listens, Configured, Printed, Stopped}
use Rattle.pp_world.specs.declared.note.Remark.TheVariants.{Taken, Cut, Kept as NotedKept, Gone, Forgotten, Evicted, Loaded}
use Rattle.pp_world.specs.declared.op.DiskOp.{DiskOp}
use Rattle.pp_law.specs.After.{after, changed, ended_op, noted}
use Rattle.pp_law.specs.Entries.{entries_in}
use Rattle.pp_law.specs.Lawful.{LawfulFrom}
use Rattle.pp_law.specs.Lists.{Bytes}
use Rattle.pp_law.specs.Opening.{are_texts, begun, configured, is_left_behind, may_fail, names_file, opened_to, permits_image, permits_woke, settings_in, stuck, with_settings, woken}
use Rattle.pp_law.specs.Permits.{IsPermitted, permits, permits_noted}
use Rattle.pp_law.specs.Phases.{come_to}
use Rattle.pp_law.specs.State.{State, Term, Phase, Before, IsWoken, IsConfigured, IsRooted, IsListed, IsListening, IsStuck, Awaiting, Handling, Evicting, Keeping, Deciding, Following, Connecting, DecidingAgain, no_agenda, start}
use Rattle.pp_law.specs.Store.{may_end_op}
use Rattle.pp_laws.specs.Runs.{IsIn, after_all, state_after}
use Rattle.pp_laws.proofs.Happenings.{after-sound}
use Rattle.pp_laws.proofs.Laws.{start-sound}
use Rattle.pp_laws.proofs.Sound.{Sound, facts_of}
use Rattle.pp_laws.proofs.Steps.{come_to-sound}
use Rattle.pp_laws.proofs.Tests.{first_holds, second_holds}
use Rattle.pp_laws_crash.proofs.CrashLaws.{one_step, since, start_inv}
use Rattle.pp_laws_crash.proofs.Frames.{kept_self}
use Rattle.pp_laws_crash.proofs.Happenings.{changed_kept, changes_disk, may_go, permitted, woke_so}
use Rattle.pp_laws_crash.proofs.Inv.{AtRest}
use Rattle.pp_laws_crash.proofs.KeptTurns.{come_to-kept}
use Rattle.pp_laws_crash.proofs.Steps.{HoldsAll, Inv, at_rest_of, empty_is, idle_is, inv_kept, under_is}
use Rattle.pp_laws_crash.proofs.Waking.{found_in, name_of_file}
use Rattle.pp_laws_found.specs.Counts.{ImagesAreSmall}
use Rattle.pp_laws_found.specs.Found.{noted_of}
use Rattle.pp_laws_found.proofs.Apart.{map_length}
use Rattle.pp_laws_found.proofs.CountsInv.{AllCounted, CleanAt, counts_rest}
use Rattle.pp_laws_found.proofs.CountsSteps.{Counts, began_counts, counts_kept, done_counts, failed_counts, gone_counts, kept_counts, unread_counts}
use Rattle.pp_laws_found.proofs.CountsWaking.{IsLeft, entries_few, few_files, woken_counts}
use Rattle.pp_laws_found.proofs.FoundInv.{Acks}
use Rattle.pp_laws_found.proofs.FoundLaws.{changed_found, start_found}
use Rattle.pp_laws_found.proofs.FoundSteps.{FoundInv}
use Rattle.pp_laws_found.proofs.FoundWaking.{left_all, named_in}

-- but for at most 1,000 names, those of the first image, a file is an entry
record FewFiles (s : State) : Type 0 where
  others : List Bytes
  few : length others ≤ 1000
  counts : Counts others s

-- ---- the opening

opened_counts : {others : List Bytes} (phase : Phase) (ok : Bool) (s : State) → Counts others s → Counts others (opened_to phase ok s)
unfolding opened_to stuck
opened_counts phase true s h = h
opened_counts phase false s h = h

with_settings_counts : {others : List Bytes} (o : Option Settings) (s : State) → Counts others s → Counts others (with_settings o s)
unfolding with_settings
with_settings_counts None s h = h
with_settings_counts (Some c) s h = h

configured_counts : {others : List Bytes} (text : Option Bytes) (s : State) → Counts others s → Counts others (configured text s)
unfolding configured stuck
configured_counts None s h = h
configured_counts (Some text) s h = with_settings_counts (settings_in (reading_of s.term.words (Some text))) s h

begun_by : {others : List Bytes} (s : State) (texts names : Bool) → Counts others s
    → Counts others (elim texts as (λ c. State) [
      | false ↦ with_settings None s
      | true ↦ elim names as (λ c. State) [ true ↦ record s { phase = IsWoken } | false ↦ with_settings (settings_in (reading_of s.term.words None)) s ]
    ])
begun_by s false names h = with_settings_counts None s h
begun_by s true true h = h
begun_by s true false h = with_settings_counts (settings_in (reading_of s.term.words None)) s h

begun_counts : {others : List Bytes} (s : State) → Counts others s → Counts others (begun s)
unfolding begun
begun_counts s h = begun_by s (are_texts s.term) (names_file s.term) h

-- ---- a life begins

module _ (s : State) (image : Files) (rising : is_rising (map name_of_file image) ≡ true) where
  differ : Distinct (map name_of_file image)
  differ = distinct (map name_of_file image) rising

  woken_few : (others : List Bytes) → length others ≤ 1000 → length (entries_in image) ≤ 10000 → ((n file : Bytes) → (IsIn n others → ⊥) → file_of n image ≡ Some file → CleanAt n (Some file)) → FewFiles (woken image s)
  unfolding woken
  woken_few others few entries clean = record { others = others; few = few; counts = begun_counts _ (woken_counts others image differ entries clean) }

  le_of : (a b : ℕ) → nat_le a b ≡ true → a ≤ b
  le_of a b is = grind (arith, nat_tests)

  -- none of the first files is an entry
  first_few : nat_le (length image) 1000 ≡ true → entries_in image ≡ [] → FewFiles (woken image s)
  first_few small none = woken_few (map name_of_file image) (omega (arith, le_of (length image) 1000 small, map_length name_of_file image))
      (omega (arith, ap (λ (es : List _). length es) none))
      (λ n file out is. absurd (out (named_in (n, file) image (found_in image n file is))))

  behind_few : IsLeft s.disk image → FewFiles s → FewFiles (woken image s)
  behind_few left h = woken_few h.others h.few (entries_few h.others s.disk h.counts.all image differ left) (λ n file out is. h.counts.all.clean n out (Some file) (left n file is))

  left_of : {acks : Acks} → FoundInv acks s → is_left_behind s.disk image ≡ true → IsLeft s.disk image
  left_of found is name file at = subst (LeavesOne (view_of name s.disk).slot) at (left_all s.disk image (λ n none. (found.named n none).0) is name)

  woke_by : {acks : Acks} (phase : Phase) → permits_image phase s.disk image ≡ true → FoundInv acks s → FewFiles s → FewFiles (woken image s)
  woke_by Before may found h = first_few (first_holds (nat_le (length image) 1000) _ may) (empty_is (entries_in image) (second_holds (nat_le (length image) 1000) _ may))
  woke_by IsWoken may found h = behind_few (left_of found may) h
  woke_by IsConfigured may found h = behind_few (left_of found may) h
  woke_by IsRooted may found h = behind_few (left_of found may) h
  woke_by IsListed may found h = behind_few (left_of found may) h
  woke_by IsListening may found h = behind_few (left_of found may) h
  woke_by IsStuck may found h = behind_few (left_of found may) h
  woke_by Awaiting may found h = behind_few (left_of found may) h
  woke_by Handling may found h = behind_few (left_of found may) h
  woke_by Evicting may found h = behind_few (left_of found may) h
  woke_by Keeping may found h = behind_few (left_of found may) h
  woke_by Deciding may found h = behind_few (left_of found may) h
  woke_by Following may found h = behind_few (left_of found may) h
  woke_by Connecting may found h = behind_few (left_of found may) h
  woke_by DecidingAgain may found h = behind_few (left_of found may) h

woke_few : {acks : Acks} (s : State) (image : Files) → permits_woke s image ≡ true → FoundInv acks s → FewFiles s → FewFiles (woken image s)
woke_few s image may found h = woke_by s image (first_holds (is_rising (map name_of_file image)) _ may) s.phase (second_holds (is_rising (map name_of_file image)) _ may) found h

-- ---- each happening

module _ {acks : Acks} (s : State) (inv : Inv s) (found : FoundInv acks s) (h : FewFiles s) where
  few_so : (t : State) → Counts h.others t → FewFiles t
  few_so t counts = record { others = h.others; few = h.few; counts = counts }

  kept : (happening : Happening) → changes_disk happening ≡ false → IsPermitted s happening → FewFiles (changed s happening)
  kept happening still is = few_so _ (counts_kept s (changed s happening) (changed_kept s inv.owed happening still is) h.counts)

  did_few : (op : DiskOp) (ok : Bool) → may_end_op s op ≡ true → FewFiles (ended_op op ok s)
  did_few op true may = few_so _ (done_counts s op inv found.plain h.counts (under_is op s.under_way may))
  did_few op false may = few_so _ (failed_counts s op inv found.plain h.counts (under_is op s.under_way may))

  gone_few : (key : Bytes) → permits_noted s (Gone key) ≡ true → FewFiles (noted (Gone key) s)
  unfolding noted
  gone_few key is =
      let go = may_go s key is in
      let still = come_to-kept Keeping s (kept_self s inv.owed) in
      let inv_t = inv_kept s (come_to Keeping s) still inv in
      few_so _ (gone_counts key (come_to Keeping s) (idle_is (come_to Keeping s).under_way go.idle_so) (empty_is (come_to Keeping s).agenda.todo go.empty)
      (subst (λ r. AtRest (come_to Keeping s).sent (come_to Keeping s).disk (come_to Keeping s).closed_names r (come_to Keeping s).entries) go.turns (at_rest_of (come_to Keeping s) go.idle_so go.empty inv_t))
      (counts_kept s (come_to Keeping s) still h.counts))

  changed_few : (happening : Happening) → HoldsAll (come_to Keeping s) → IsPermitted s happening → FewFiles (changed s happening)
  unfolding changed permits noted
  changed_few (Woke image) held is = woke_few s image (woke_so s image is) found h
  changed_few (Waits w) held is = kept (Waits w) refl is
  changed_few (Clock seconds) held is = kept (Clock seconds) refl is
  changed_few (Opened n) held is = kept (Opened n) refl is
  changed_few (CanRead n) held is = kept (CanRead n) refl is
  changed_few (CanWrite n) held is = kept (CanWrite n) refl is
  changed_few (Heard c bytes) held is = kept (Heard c bytes) refl is
  changed_few (HungUp c) held is = kept (HungUp c) refl is
  changed_few (Said c offered bytes) held is = kept (Said c offered bytes) refl is
  changed_few (Shut c) held is = kept (Shut c) refl is
  changed_few (Dialled n host port) held is = kept (Dialled n host port) refl is
  changed_few (Undialled host port) held is = kept (Undialled host port) refl is
  changed_few (Reached k) held is = kept (Reached k) refl is
  changed_few (Ended k) held is = kept (Ended k) refl is
  changed_few (Broke k) held is = kept (Broke k) refl is
  changed_few (Asked k bytes) held is = kept (Asked k bytes) refl is
  changed_few (Got k bytes) held is = kept (Got k bytes) refl is
  changed_few (Dropped k) held is = kept (Dropped k) refl is
  changed_few (NoneYet n) held is = kept (NoneYet n) refl is
  changed_few (Began op) held is = few_so _ (began_counts s op held (permitted s (Began op) refl is) inv found.plain h.counts)
  changed_few (Did op ok) held is = did_few op ok (first_holds (may_end_op s op) _ (permitted s (Did op ok) refl is))
  changed_few (Unread name) held is =
      let may = second_holds (may_fail s false) _ (permitted s (Unread name) refl is) in
      let rest = first_holds (not (is_some s.under_way) && is_empty s.agenda.todo) _ may in
      few_so _ (unread_counts name s (idle_is s.under_way (first_holds (not (is_some s.under_way)) _ rest)) (empty_is s.agenda.todo (second_holds (not (is_some s.under_way)) _ rest)) h.counts inv.owed)
  changed_few (Noted (Taken c i d)) held is = kept (Noted (Taken c i d)) refl is
  changed_few (Noted (Cut c cause)) held is = kept (Noted (Cut c cause)) refl is
  changed_few (Noted (NotedKept key tag n extent)) held is = few_so _ (kept_counts s key tag n extent (permitted s (Noted (NotedKept key tag n extent)) refl is) inv h.counts)
  changed_few (Noted (Gone key)) held is = gone_few key (permitted s (Noted (Gone key)) refl is)
  changed_few (Noted (Forgotten key)) held is = kept (Noted (Forgotten key)) refl is
  changed_few (Noted (Evicted key tag n i)) held is = kept (Noted (Evicted key tag n i)) refl is
  changed_few (Noted (Loaded key tag n i)) held is = kept (Noted (Loaded key tag n i)) refl is
  changed_few (Rooted folder) held is = few_so _ (opened_counts IsRooted true s h.counts)
  changed_few (Listed ok) held is = few_so _ (opened_counts IsListed ok s h.counts)
  changed_few (Listens port ok) held is = few_so _ (opened_counts IsListening ok s h.counts)
  changed_few (Configured file text) held is = few_so _ (configured_counts text s h.counts)
  changed_few (Printed text) held is = h
  changed_few Stopped held is = kept Stopped refl is

-- ---- along a log

none_at : (n : Bytes) (file : Option Bytes) → LeavesOne (None ∷ []) file → CleanAt n file
none_at n None left = tt
none_at n (Some c) (inl bad) = absurd bad
none_at n (Some c) (inr bad) = absurd bad

no_file : (file : Bytes) → LeavesOne (None ∷ []) (Some file) → ⊥
no_file file (inl bad) = bad
no_file file (inr bad) = bad

start_all : AllCounted [] []
unfolding view_of
start_all = record { clean = λ n out file left. none_at n file left; covers = λ n file left e. absurd (no_file file left); apart = tt; few = omega arith }

start_few : (terms : List Term) → FewFiles (start terms)
start_few terms = record { others = []; few = omega arith; counts = counts_rest start_all (λ n i. absurd i) no_agenda refl }

goes_along : (s : State) (log : Log) (acks : Acks) → LawfulFrom s log → Sound since s → Inv s → FoundInv acks s → FewFiles s → FewFiles (after_all s log)
goes_along s [] acks lawful well inv found h = h
goes_along s (happening ∷ log) acks lawful well inv found h =
    let holds : HoldsAll (come_to Keeping s) = λ x i. (facts_of (come_to-sound Keeping s well)).held refl x i in
    let step = one_step s happening lawful.0 well inv in
    goes_along (after s happening) log (λ key. noted_of key (acks key) happening) lawful.1 (after-sound s happening refl (λ counts. step.0) lawful.0 well) step.1 (changed_found s inv found happening holds lawful.0) (changed_few s inv found h happening holds lawful.0)

-- ---- the law

pub images_small : ImagesAreSmall
images_small terms log image lawful rising left =
    let h = goes_along (start terms) log (λ key. None) lawful (start-sound since terms refl) (start_inv terms) (start_found terms) (start_few terms) in
    few_files h.others (state_after terms log).disk h.counts.all image (distinct (map name_of_file image) rising) (λ name file is. subst (LeavesOne (view_of name (state_after terms log).disk).slot) is (left name)) h.few
