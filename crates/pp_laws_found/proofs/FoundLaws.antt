-- The law: what was acknowledged is found, whatever a crash leaves.
use Rattle.std.proofs.Common.{◌≡◌, refl, Bool, true, false, not, ◌==◌, ◌&&◌, List, [], ◌∷◌, ◌++◌, Option, Some, None, sym, subst, ap, ◌∙◌}
use Rattle.std.specs.Prelude.{fold, is_some}
use Rattle.pp_conf.specs.Conf.{Settings}
use Rattle.pp_conf.specs.Words.{reading_of}
use Rattle.pp_target.specs.Name.{name_of}
use Rattle.pp_text.specs.Bytes.{is_empty}
use Rattle.pp_world.specs.Disk.{view_of}
use Rattle.pp_world.specs.Files.{Files, file_of}
use Rattle.pp_world.specs.Log.{Log}
use Rattle.pp_world.specs.declared.happening.Happening.{Happening}
use Rattle.pp_world.specs.declared.happening.Happening.TheVariants.{Woke, Waits, Clock, Opened, CanRead, CanWrite, Heard, HungUp, Said, Shut, Dialled, Undialled, Reached, Ended, Broke, Asked, Got, Dropped, NoneYet, Began, Did, Unread, Noted, Rooted, Listed, Listens, Configured, Printed, Stopped}
use Rattle.pp_world.specs.declared.note.Remark.TheVariants.{Taken, Cut, Kept as NotedKept, Gone, Forgotten, Evicted, Loaded}
use Rattle.pp_world.specs.declared.op.DiskOp.{DiskOp}
use Rattle.pp_law.specs.After.{after, changed, ended_op, noted}
use Rattle.pp_law.specs.Lawful.{Lawful, LawfulFrom}
use Rattle.pp_law.specs.Lists.{Bytes}
use Rattle.pp_law.proofs.Prefixes.{front_from}
use Rattle.pp_law.specs.Entries.{entries_in}
use Rattle.pp_law.specs.Opening.{are_texts, begun, is_at, may_fail, names_file, permits_configured, permits_listens, settings_in, term_in, with_settings, woken}
use Rattle.pp_law.specs.Permits.{IsPermitted, permits, permits_noted}
use Rattle.pp_law.specs.Phases.{come_to}
use Rattle.pp_law.specs.State.{State, Term, IsRooted, IsListed, IsListening, IsConfigured, IsWoken, Keeping, no_agenda, start}
use Rattle.pp_law.specs.Store.{may_end_op}
use Rattle.pp_laws.specs.Runs.{after_all, state_after}
use Rattle.pp_laws.proofs.Happenings.{after-sound}
use Rattle.pp_laws.proofs.Laws.{start-sound}
use Rattle.pp_laws.proofs.Sound.{Sound, facts_of}
use Rattle.pp_laws.proofs.Steps.{come_to-sound}
use Rattle.pp_laws.proofs.Tests.{first_holds, second_holds}
use Rattle.pp_laws_crash.proofs.CrashLaws.{one_step, since, start_inv}
use Rattle.pp_laws_crash.proofs.Frames.{kept_self, takes_turns}
use Rattle.pp_laws_crash.proofs.Inv.{AtRest}
use Rattle.pp_laws_crash.proofs.Happenings.{changed_kept, changes_disk, may_go, permitted, woke_so}
use Rattle.pp_laws_crash.proofs.KeptTurns.{come_to-kept}
use Rattle.pp_laws_crash.proofs.Standing.{at_IsConfigured, at_IsListed, at_IsRooted, at_IsWoken}
use Rattle.pp_laws_crash.proofs.Waking.{entries_there, found_in}
use Rattle.pp_laws_crash.proofs.Steps.{HoldsAll, Inv, at_rest_of, idle_is, inv_kept, under_is}
use Rattle.pp_laws_found.specs.Found.{Acknowledged, AcknowledgedIsFound, AcknowledgedIsRecovered, HasRow, IsFoundIn, acknowledged, noted_of}
use Rattle.pp_laws_found.proofs.FoundAt.{FoundAt}
use Rattle.pp_laws_found.proofs.FoundInv.{Acks, at_rest}
use Rattle.pp_laws_found.proofs.FoundSteps.{FoundInv, began_found, done_found, failed_found, found_kept, gone_found, kept_found, unread_found}
use Rattle.pp_laws_found.proofs.FoundWaking.{configured_found, opened_found, opens_of, woke_found, woke_left}

-- ---- each happening

module _ {acks : Acks} (s : State) (inv : Inv s) (h : FoundInv acks s) where
  did_found : (op : DiskOp) (ok : Bool) → may_end_op s op ≡ true → FoundInv acks (ended_op op ok s)
  did_found op true may = done_found s op inv h (under_is op s.under_way may)
  did_found op false may = failed_found s op inv h (under_is op s.under_way may)

  gone_so : (key : Bytes) → permits_noted s (Gone key) ≡ true → FoundInv (λ k. noted_of k (acks k) (Noted (Gone key))) (noted (Gone key) s)
  unfolding noted
  gone_so key is =
      let go = may_go s key is in
      let still = come_to-kept Keeping s (kept_self s inv.owed) in
      let inv_t = inv_kept s (come_to Keeping s) still inv in
      gone_found key (come_to Keeping s) go.takes (idle_is (come_to Keeping s).under_way go.idle_so)
      (subst (λ r. AtRest (come_to Keeping s).sent (come_to Keeping s).disk (come_to Keeping s).closed_names r (come_to Keeping s).entries) go.turns (at_rest_of (come_to Keeping s) go.idle_so go.empty inv_t))
      (found_kept s (come_to Keeping s) still h)

  kept : (happening : Happening) → changes_disk happening ≡ false → IsPermitted s happening → FoundInv acks (changed s happening)
  kept happening still is = found_kept s (changed s happening) (changed_kept s inv.owed happening still is) h

  pub changed_found : (happening : Happening) → HoldsAll (come_to Keeping s) → IsPermitted s happening → FoundInv (λ key. noted_of key (acks key) happening) (changed s happening)
  unfolding changed permits noted
  changed_found (Woke image) held is = woke_found s image (woke_so s image is) h
  changed_found (Waits w) held is = kept (Waits w) refl is
  changed_found (Clock seconds) held is = kept (Clock seconds) refl is
  changed_found (Opened n) held is = kept (Opened n) refl is
  changed_found (CanRead n) held is = kept (CanRead n) refl is
  changed_found (CanWrite n) held is = kept (CanWrite n) refl is
  changed_found (Heard c bytes) held is = kept (Heard c bytes) refl is
  changed_found (HungUp c) held is = kept (HungUp c) refl is
  changed_found (Said c offered bytes) held is = kept (Said c offered bytes) refl is
  changed_found (Shut c) held is = kept (Shut c) refl is
  changed_found (Dialled n host port) held is = kept (Dialled n host port) refl is
  changed_found (Undialled host port) held is = kept (Undialled host port) refl is
  changed_found (Reached k) held is = kept (Reached k) refl is
  changed_found (Ended k) held is = kept (Ended k) refl is
  changed_found (Broke k) held is = kept (Broke k) refl is
  changed_found (Asked k bytes) held is = kept (Asked k bytes) refl is
  changed_found (Got k bytes) held is = kept (Got k bytes) refl is
  changed_found (Dropped k) held is = kept (Dropped k) refl is
  changed_found (NoneYet n) held is = kept (NoneYet n) refl is
  changed_found (Began op) held is = began_found s op held (permitted s (Began op) refl is) inv h
  changed_found (Did op ok) held is = did_found op ok (first_holds (may_end_op s op) _ (permitted s (Did op ok) refl is))
  changed_found (Unread name) held is =
      let may = second_holds (may_fail s false) _ (permitted s (Unread name) refl is) in
      let rest = first_holds (not (is_some s.under_way) && is_empty s.agenda.todo) _ may in
      unread_found name s (idle_is s.under_way (first_holds (not (is_some s.under_way)) _ rest)) inv.owed h
  changed_found (Noted (Taken c i d)) held is = kept (Noted (Taken c i d)) refl is
  changed_found (Noted (Cut c cause)) held is = kept (Noted (Cut c cause)) refl is
  changed_found (Noted (NotedKept key tag n extent)) held is = kept_found s key tag n extent (permitted s (Noted (NotedKept key tag n extent)) refl is) inv h
  changed_found (Noted (Gone key)) held is = gone_so key (permitted s (Noted (Gone key)) refl is)
  changed_found (Noted (Forgotten key)) held is = kept (Noted (Forgotten key)) refl is
  changed_found (Noted (Evicted key tag n i)) held is = kept (Noted (Evicted key tag n i)) refl is
  changed_found (Noted (Loaded key tag n i)) held is = kept (Noted (Loaded key tag n i)) refl is
  changed_found (Rooted folder) held is =
      let at = at_IsConfigured s.phase (first_holds (is_at IsConfigured s) _ (permitted s (Rooted folder) refl is)) in
      opened_found s IsRooted true (λ is. cc is) (opens_of s (ap takes_turns at) h)
  changed_found (Listed ok) held is =
      let at = at_IsRooted s.phase (first_holds (is_at IsRooted s) _ (permitted s (Listed ok) refl is)) in
      opened_found s IsListed ok (λ is. cc is) (opens_of s (ap takes_turns at) h)
  changed_found (Listens port ok) held is =
      let two = first_holds (is_at IsListed s && (port == s.settings.port)) _ (first_holds (permits_listens s port) _ (permitted s (Listens port ok) refl is)) in
      opened_found s IsListening ok (λ is. cc is) (opens_of s (ap takes_turns (at_IsListed s.phase (first_holds (is_at IsListed s) _ two))) h)
  changed_found (Configured file text) held is =
      let at = at_IsWoken s.phase (first_holds (is_at IsWoken s) _ (first_holds (permits_configured s file) _ (permitted s (Configured file text) refl is))) in
      configured_found s text (opens_of s (ap takes_turns at) h)
  changed_found (Printed text) held is = h
  changed_found Stopped held is = kept Stopped refl is

-- ---- along a log

pub start_found : (terms : List Term) → FoundInv (λ key. None) (start terms)
unfolding view_of
start_found terms = record {
  files = at_rest (λ key a is. absurd (cc is)) (λ key a is. absurd (cc is)) no_agenda refl;
  first = λ is key a was. absurd (cc was);
  plain = λ opens. (tt, tt);
  named = λ name none. (refl, tt);
}

goes_along : (s : State) (log : Log) (acks : Acks) → LawfulFrom s log → Sound since s → Inv s → FoundInv acks s → FoundInv (λ key. fold (noted_of key) (acks key) log) (after_all s log)
goes_along s [] acks lawful well inv h = h
goes_along s (happening ∷ log) acks lawful well inv h =
    let step = one_step s happening lawful.0 well inv in
    goes_along (after s happening) log (λ key. noted_of key (acks key) happening) lawful.1 (after-sound s happening refl (λ counts. step.0) lawful.0 well) step.1
    (changed_found s inv h happening (λ x i. (facts_of (come_to-sound Keeping s well)).held refl x i) lawful.0)

-- ---- the law

in_image : (image : Files) (key : Bytes) (a : Acknowledged) (file : Option Bytes) → file_of (name_of key) image ≡ file → FoundAt key a file → IsFoundIn image key a
in_image image key a None is none = absurd none
in_image image key a (Some file) is found = record { file = file; stands = is; entry = found }

found_behind : (terms : List Term) (log : Log) → Lawful terms log → FoundInv (λ key. acknowledged key log) (state_after terms log)
found_behind terms log lawful = goes_along (start terms) log (λ key. None) lawful (start-sound since terms refl) (start_inv terms) (start_found terms)

pub acknowledged_found : AcknowledgedIsFound
acknowledged_found terms log image key a lawful left was = in_image image key a (file_of (name_of key) image) refl ((found_behind terms log lawful).files.found key a was (file_of (name_of key) image) (left (name_of key)))

-- ---- the next life

settled_by : (image : Files) (o : Option Settings) (s : State) → s.entries ≡ entries_in image → (with_settings o s).entries ≡ entries_in image
unfolding with_settings
settled_by image None s is = is
settled_by image (Some c) s is = is

woken_by : (image : Files) (s : State) (texts names : Bool) → s.entries ≡ entries_in image
    → (elim texts as (λ c. State) [
      | false ↦ with_settings None s
      | true ↦ elim names as (λ c. State) [ true ↦ record s { phase = IsWoken } | false ↦ with_settings (settings_in (reading_of s.term.words None)) s ]
    ]).entries ≡ entries_in image
woken_by image s false names is = settled_by image None s is
woken_by image s true true is = is
woken_by image s true false is = settled_by image (settings_in (reading_of s.term.words None)) s is

woken_entries : (image : Files) (s : State) → (woken image s).entries ≡ entries_in image
unfolding woken begun
woken_entries image s = woken_by image _ (are_texts (term_in s.terms)) (names_file (term_in s.terms)) refl

row_of : (image : Files) (key : Bytes) (a : Acknowledged) → IsFoundIn image key a → HasRow (entries_in image) key a
row_of image key a found = record {
  entry = found.entry.entry;
  there = entries_there image (name_of key, found.file) found.entry.entry (found_in image (name_of key) found.file found.stands) found.entry.is;
  of_key = found.entry.of_key;
  of_version = found.entry.of_version;
  reaches = found.entry.reaches;
}

behind_log : (s : State) (log rest : Log) → LawfulFrom s (log ++ rest) → LawfulFrom (after_all s log) rest
behind_log s [] rest lawful = lawful
behind_log s (h ∷ log) rest lawful = behind_log (after s h) log rest lawful.1

after_last : (s : State) (log : Log) (h : Happening) → after_all s (log ++ h ∷ []) ≡ after (after_all s log) h
after_last s [] h = refl
after_last s (k ∷ log) h = after_last (after s k) log h

after_woke : (s : State) (image : Files) → after s (Woke image) ≡ woken image s
unfolding changed
after_woke s image = refl

pub acknowledged_recovered : AcknowledgedIsRecovered
acknowledged_recovered terms log image key a lawful was =
    let front = front_from (start terms) log (Woke image ∷ []) lawful in
    let s : State = state_after terms log in
    let left = woke_left s image (woke_so s image (behind_log (start terms) log (Woke image ∷ []) lawful).0) (found_behind terms log front) key a was in
    subst (λ t. HasRow t.entries key a) (sym (after_last (start terms) log (Woke image) ∙ after_woke s image))
    (subst (λ es. HasRow es key a) (sym (woken_entries image s)) (row_of image key a (in_image image key a (file_of (name_of key) image) refl left)))
