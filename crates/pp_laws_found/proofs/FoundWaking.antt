-- A life begins with the files that a crash left: what was acknowledged is among them, and among its entries.
use Rattle.std.proofs.Common.{◌≡◌, refl, Bool, true, false, List, [], ◌∷◌, ◌++◌, map, bytes_eq, Option, Some, None, inl, inr, sym, subst, ap, ◌∙◌}
use Rattle.std.specs.Prelude.{flat_map}
use Rattle.pp_conf.specs.Conf.{Settings}
use Rattle.pp_conf.specs.Words.{reading_of}
use Rattle.pp_gate.proofs.Images.{settled_leaves}
use Rattle.pp_gate.proofs.Ops.{AllLeft, one_leaves}
use Rattle.pp_target.specs.Name.{name_of}
use Rattle.pp_world.specs.Disk.{IsLeftOf, LeavesOne, Stored, at_rest, is_rising, settled, view_of, woken as woken_view}
use Rattle.pp_world.specs.Files.{Files, file_of}
use Rattle.pp_world.specs.Log.{Log}
use Rattle.pp_world.specs.declared.happening.Happening.TheVariants.{Woke}
use Rattle.pp_law.specs.Entries.{entries_in}
use Rattle.pp_law.specs.Lists.{Bytes, has_text}
use Rattle.pp_law.specs.Opening.{are_texts, begun, configured, is_left_behind, leaves_under, names_file, names_of, once, permits_image, opened_to, permits_woke, settings_in, stuck, with_settings, woken}
use Rattle.pp_law.specs.State.{State, no_agenda, Phase, Before, IsWoken, IsConfigured, IsRooted, IsListed, IsListening, IsStuck, Awaiting, Handling, Evicting, Keeping, Deciding, Following, Connecting, DecidingAgain}
use Rattle.pp_laws.specs.Runs.{IsIn}
use Rattle.pp_laws.proofs.Tests.{second_holds}
use Rattle.pp_laws_crash.proofs.Backing.{entry_told}
use Rattle.pp_laws_crash.proofs.Frames.{takes_turns}
use Rattle.pp_laws_crash.proofs.Views.{name_same, view_more}
use Rattle.pp_laws_crash.proofs.Waking.{all_in, any_left, entries_there, found_in, has_in, name_of_file, once_in, solid_view}
use Rattle.pp_laws_found.specs.Found.{Acknowledged}
use Rattle.pp_laws_found.proofs.FoundAt.{Found, FoundAt}
use Rattle.pp_laws_found.proofs.FoundInv.{Acks, AllFound, AllKnown, FoundOf, HasEntry, at_rest as found_at_rest}
use Rattle.pp_laws_found.proofs.FoundSteps.{FoundInv, IsNamed, NoDrafts, names_in, none_in, or_none}

pub has_of : (name : Bytes) (names : List Bytes) → IsIn name names → has_text name names ≡ false → ⊥
has_of name [] i none = i
has_of name (n ∷ names) (inl eq) none = let both : true ≡ false = sym (name_same name) ∙ ap (λ (m : Bytes). bytes_eq m name) eq ∙ (or_none (bytes_eq n name) _ none).0 in cc both
has_of name (n ∷ names) (inr i) none = has_of name names i (or_none (bytes_eq n name) _ none).1

pub named_in : (p : Bytes × Bytes) (image : Files) → IsIn p image → IsIn p.0 (map name_of_file image)
named_in p [] i = absurd i
named_in p (q ∷ image) (inl eq) = inl (ap name_of_file eq)
named_in p (q ∷ image) (inr i) = inr (named_in p image i)

-- a name that is in no list has no file in the image
no_file : (name : Bytes) (image : Files) → has_text name (map name_of_file image) ≡ false → file_of name image ≡ None
no_file name image none = by (file_of name image) refl
  where
    by : (o : Option Bytes) → file_of name image ≡ o → o ≡ None
    by None is = refl
    by (Some file) is = absurd (has_of name (map name_of_file image) (named_in (name, file) image (found_in image name file is)) none)

-- under each name a crash left what the test says
pub left_all : (disk : Log) (image : Files) → ((name : Bytes) → has_text name (names_in disk) ≡ false → (view_of name disk).slot ≡ None ∷ []) → is_left_behind disk image ≡ true → (name : Bytes) → LeavesOne (view_of name disk).slot (file_of name image)
left_all disk image named is name = by (has_text name (flat_map names_of disk ++ map name_of_file image)) refl
  where
    by : (b : Bool) → has_text name (flat_map names_of disk ++ map name_of_file image) ≡ b → LeavesOne (view_of name disk).slot (file_of name image)
    by true there = any_left (file_of name image) (view_of name disk).slot (solid_view name disk)
        (all_in (leaves_under disk image) (once [] (flat_map names_of disk ++ map name_of_file image)) name is (once_in name (flat_map names_of disk ++ map name_of_file image) [] (has_in name (flat_map names_of disk ++ map name_of_file image) there)))
    by false none =
        let parts = none_in name (flat_map names_of disk) (map name_of_file image) none in
        subst (λ (slot : List (Option Stored)). LeavesOne slot (file_of name image)) (sym (named name parts.0)) (inl (subst (IsLeftOf None) (sym (no_file name image parts.1)) tt))

-- ---- the life that begins

module _ {acks : Acks} (image : Files) (left : (key : Bytes) (a : Acknowledged) → acks key ≡ Some a → FoundAt key a (file_of (name_of key) image)) where
  at : (name : Bytes) → view_of name (Woke image ∷ []) ≡ woken_view name image
  at name = view_more name [] (Woke image)

  stands : (key : Bytes) (a : Acknowledged) (file : Option Bytes) → FoundAt key a file → AllLeft (FoundAt key a) (record { draft = None; slot = at_rest file ∷ []; failed = false })
  stands key a None none = absurd none
  stands key a (Some file) is = one_leaves (settled file) (FoundAt key a) _ refl (λ c kept. subst (λ b. FoundAt key a (Some b)) (sym (settled_leaves file c kept)) is)

  woken_found : AllFound acks (Woke image ∷ [])
  woken_found key a is = subst (Found key a) (sym (at (name_of key))) (stands key a (file_of (name_of key) image) (left key a is))

  entry_there : (key : Bytes) (a : Acknowledged) (file : Option Bytes) → file_of (name_of key) image ≡ file → FoundAt key a file → HasEntry (entries_in image) (name_of key)
  entry_there key a None found none = absurd none
  entry_there key a (Some file) found is = record {
    entry = is.entry;
    there = entries_there image (name_of key, file) is.entry (found_in image (name_of key) file found) is.is;
    named = (entry_told (name_of key) file is.entry is.is).name_is;
  }

  woken_known : AllKnown acks [] (entries_in image)
  woken_known key a is = inr (entry_there key a (file_of (name_of key) image) refl (left key a is))

  woken_files : FoundOf acks (Woke image ∷ []) no_agenda None [] (entries_in image)
  woken_files = found_at_rest woken_found woken_known no_agenda refl

  woken_named : IsNamed (Woke image ∷ []) None
  woken_named name none = (ap (λ v. v.slot) (at name) ∙ ap (λ (f : Option Bytes). at_rest f ∷ []) (no_file name image (none_in name (map name_of_file image) [] none).0), tt)

-- ---- to the next place of the opening

pub record Opens (acks : Acks) (s : State) : Type 0 where
  pub files : FoundOf acks s.disk s.agenda s.under_way s.closed_names s.entries
  pub plain : NoDrafts s.agenda.todo s.under_way
  pub named : IsNamed s.disk s.under_way

pub opens_of : {acks : Acks} (s : State) → takes_turns s.phase ≡ false → FoundInv acks s → Opens acks s
opens_of s opens h = record { files = h.files; plain = h.plain opens; named = h.named }

with_settings_found : {acks : Acks} (s : State) (o : Option Settings) → Opens acks s → FoundInv acks (with_settings o s)
unfolding with_settings
with_settings_found s None h = record { files = h.files; first = λ is key a was. absurd (cc is); plain = λ opens. h.plain; named = h.named }
with_settings_found s (Some c) h = record { files = h.files; first = λ is key a was. absurd (cc is); plain = λ opens. h.plain; named = h.named }

stuck_found : {acks : Acks} (s : State) → Opens acks s → FoundInv acks (stuck s)
unfolding stuck
stuck_found s h = record { files = h.files; first = λ is key a was. absurd (cc is); plain = λ opens. h.plain; named = h.named }

pub opened_found : {acks : Acks} (s : State) (phase : Phase) (ok : Bool) → (phase ≡ Before → ⊥) → Opens acks s → FoundInv acks (opened_to phase ok s)
unfolding opened_to
opened_found s phase true isnt h = record { files = h.files; first = λ is key a was. isnt is; plain = λ opens. h.plain; named = h.named }
opened_found s phase false isnt h = stuck_found s h

pub configured_found : {acks : Acks} (s : State) (text : Option Bytes) → Opens acks s → FoundInv acks (configured text s)
unfolding configured
configured_found s None h = stuck_found s h
configured_found s (Some text) h = with_settings_found s (settings_in (reading_of s.term.words (Some text))) h

begun_by : {acks : Acks} (s : State) (texts names : Bool) → Opens acks s
    → FoundInv acks (elim texts as (λ c. State) [
      | false ↦ with_settings None s
      | true ↦ elim names as (λ c. State) [ true ↦ record s { phase = IsWoken } | false ↦ with_settings (settings_in (reading_of s.term.words None)) s ]
    ])
begun_by s false names h = with_settings_found s None h
begun_by s true true h = record { files = h.files; first = λ is key a was. absurd (cc is); plain = λ opens. h.plain; named = h.named }
begun_by s true false h = with_settings_found s (settings_in (reading_of s.term.words None)) h

begun_found : {acks : Acks} (s : State) → Opens acks s → FoundInv acks (begun s)
unfolding begun
begun_found s h = begun_by s (are_texts s.term) (names_file s.term) h

woken_inv : {acks : Acks} (image : Files) (s : State) → ((key : Bytes) (a : Acknowledged) → acks key ≡ Some a → FoundAt key a (file_of (name_of key) image)) → FoundInv acks (woken image s)
unfolding woken
woken_inv image s left = begun_found _ (record { files = woken_files image left; plain = (tt, tt); named = woken_named image left })

left_by : {acks : Acks} (s : State) (image : Files) (phase : Phase) → s.phase ≡ phase → permits_image phase s.disk image ≡ true → FoundInv acks s → (key : Bytes) (a : Acknowledged) → acks key ≡ Some a → FoundAt key a (file_of (name_of key) image)
left_by {acks} s image phase at may h key a was = by phase at may
  where
    behind : is_left_behind s.disk image ≡ true → FoundAt key a (file_of (name_of key) image)
    behind is = h.files.found key a was (file_of (name_of key) image) (left_all s.disk image (λ name none. (h.named name none).0) is (name_of key))

    by : (phase : Phase) → s.phase ≡ phase → permits_image phase s.disk image ≡ true → FoundAt key a (file_of (name_of key) image)
    by Before at may = absurd (h.first at key a was)
    by IsWoken at may = behind may
    by IsConfigured at may = behind may
    by IsRooted at may = behind may
    by IsListed at may = behind may
    by IsListening at may = behind may
    by IsStuck at may = behind may
    by Awaiting at may = behind may
    by Handling at may = behind may
    by Evicting at may = behind may
    by Keeping at may = behind may
    by Deciding at may = behind may
    by Following at may = behind may
    by Connecting at may = behind may
    by DecidingAgain at may = behind may

pub woke_found : {acks : Acks} (s : State) (image : Files) → permits_woke s image ≡ true → FoundInv acks s → FoundInv acks (woken image s)
woke_found s image may h = woken_inv image s (left_by s image s.phase refl (second_holds (is_rising (map name_of_file image)) _ may) h)

-- what was acknowledged is in the image that it begins with
pub woke_left : {acks : Acks} (s : State) (image : Files) → permits_woke s image ≡ true → FoundInv acks s → (key : Bytes) (a : Acknowledged) → acks key ≡ Some a → FoundAt key a (file_of (name_of key) image)
woke_left s image may h = left_by s image s.phase refl (second_holds (is_rising (map name_of_file image)) _ may) h
