-- A log in which nothing of the folder changed yet, the names of a folder in their order, and the entries that are found in it.
use Rattle.std.proofs.Common.{◌≡◌, refl, ap, ap₂, ◌∙◌, ℕ, Bool, true, false, not, ◌&&◌, ◌||◌, cond, filter, List, [], ◌∷◌, ◌++◌, length, map, take, Option, Some, None}
use Rattle.std.proofs.lemmas.Cmp.{nat_list_cmp_total}
use Rattle.std.proofs.lemmas.List.{take_all}
use Rattle.std.proofs.lemmas.List.Sums.{fold-append}
use Rattle.std.specs.List.{cons_option, list_any}
use Rattle.std.specs.Option.{option_and_then}
use Rattle.std.specs.Ordering.{is_lt}
use Rattle.std.specs.Prelude.{bytes_eq}
use Rattle.std.specs.declared.cmp.Ordering.{Ordering}
use Rattle.std.specs.declared.cmp.Ordering.TheVariants.{Less, Equal, Greater}
use Rattle.pp_cache_law.specs.Outdated.{AreNoted}
use Rattle.pp_entry.specs.Entries.{Row, row_at}
use Rattle.pp_entry.specs.Gates.{has_extent}
use Rattle.pp_gate.proofs.Views.{view_of-append}
use Rattle.pp_joints_law.specs.Opened.{asked_for}
use Rattle.pp_law.specs.Entries.{entries_in, entry_with, kept_in}
use Rattle.pp_law.specs.Lists.{Bytes, has_text, without}
use Rattle.pp_law.specs.State.{Entry}
use Rattle.pp_law.specs.Store.{is_named}
use Rattle.pp_laws.proofs.Tests.{first_holds, second_holds}
use Rattle.pp_objects.specs.Kept.{kept_of}
use Rattle.pp_recover.specs.Image.{HasFewNames}
use Rattle.pp_recover.specs.Opening.{IsFresh}
use Rattle.pp_shelf_law.proofs.Shelves.{bytes_swap, closed_more}
use Rattle.pp_target.specs.Name.{name_of}
use Rattle.pp_world.specs.Disk.{image_after, image_of, is_name, is_rising, names_in}
use Rattle.pp_world.specs.Files.{Files, name_order}
use Rattle.pp_world.specs.Log.{Log}
use Rattle.pp_world.specs.declared.happening.Happening.TheVariants.{Configured, Rooted, Woke}

-- ---- nothing changed

pub fresh_woken : (k : Log) (files : Files) → IsFresh files (k ++ Woke files ∷ [])
unfolding image_of
fresh_woken k files = record {
  image = fold-append image_after (Some []) k (Woke files ∷ []);
  views = λ name. view_of-append name k (Woke files ∷ []);
}

pub fresh_rooted : (files : Files) (k : Log) (folder : Bytes) → IsFresh files k → IsFresh files (k ++ Rooted folder ∷ [])
unfolding image_of
fresh_rooted files k folder fresh = record {
  image = fold-append image_after (Some []) k (Rooted folder ∷ []) ∙ fresh.image;
  views = λ name. view_of-append name k (Rooted folder ∷ []) ∙ fresh.views name;
}

pub fresh_asked : (files : Files) (k : Log) (named text : Option Bytes) → IsFresh files k → IsFresh files (k ++ asked_for named text)
unfolding image_of
fresh_asked files k None text fresh = record {
  image = fold-append image_after (Some []) k [] ∙ fresh.image;
  views = λ name. view_of-append name k [] ∙ fresh.views name;
}
fresh_asked files k (Some file) text fresh = record {
  image = fold-append image_after (Some []) k (Configured file text ∷ []) ∙ fresh.image;
  views = λ name. view_of-append name k (Configured file text ∷ []) ∙ fresh.views name;
}

-- ---- names that rise

abbrev Above : Bytes → List Bytes → Type 0
Above name [] = Unit {0}
Above name (n ∷ ns) = (name_order name n ≡ Less) × Above name ns

abbrev AreSorted : List Bytes → Type 0
AreSorted [] = Unit {0}
AreSorted (n ∷ ns) = Above n ns × AreSorted ns

less_is : (o : Ordering) → is_lt o ≡ true → o ≡ Less
less_is Less is = refl
less_is Equal is = absurd (cc is)
less_is Greater is = absurd (cc is)

above_all : (low name : Bytes) (ns : List Bytes) → name_order low name ≡ Less → Above name ns → Above low ns
above_all low name [] less all = tt
above_all low name (n ∷ ns) less all = (nat_list_cmp_total.trans low name n less all.0, above_all low name ns less all.1)

sorted_behind : (name : Bytes) (ns : List Bytes) → is_rising (name ∷ ns) ≡ true → AreSorted (name ∷ ns)
sorted_behind name [] is = (tt, tt)
sorted_behind name (n ∷ ns) is =
    let rest : AreSorted (n ∷ ns) = sorted_behind n ns (second_holds (is_lt (name_order name n)) (is_rising (n ∷ ns)) is) in
    let less : name_order name n ≡ Less = less_is (name_order name n) (first_holds (is_lt (name_order name n)) (is_rising (n ∷ ns)) is) in
    ((less, above_all name n ns less rest.0), rest)

sorted_of : (ns : List Bytes) → is_rising ns ≡ true → AreSorted ns
sorted_of [] is = tt
sorted_of (n ∷ ns) is = sorted_behind n ns is

rising_of : (ns : List Bytes) → AreSorted ns → is_rising ns ≡ true
rising_of [] all = refl
rising_of (n ∷ []) all = refl
rising_of (n ∷ m ∷ ns) all = ap₂ (λ (a b : Bool). a && b) (ap is_lt all.0.0) (rising_of (m ∷ ns) all.1)

module _ (p : Bytes → Bool) where
  above_left : (name : Bytes) (ns : List Bytes) → Above name ns → Above name (filter p ns)
  above_left name [] all = tt
  above_left name (n ∷ ns) all = by (p n) (above_left name ns all.1)
    where
      by : (b : Bool) → Above name (filter p ns) → Above name (cond b (n ∷ filter p ns) (filter p ns))
      by true rest = (all.0, rest)
      by false rest = rest

  sorted_left : (ns : List Bytes) → AreSorted ns → AreSorted (filter p ns)
  sorted_left [] all = tt
  sorted_left (n ∷ ns) all = by (p n) (sorted_left ns all.1)
    where
      by : (b : Bool) → AreSorted (filter p ns) → AreSorted (cond b (n ∷ filter p ns) (filter p ns))
      by true rest = (above_left n ns all.0, rest)
      by false rest = rest

pub names_rise : (files : Files) → is_rising (map (λ file. file.0) files) ≡ true → HasFewNames files → is_rising (names_in files) ≡ true
names_rise files rising few =
    ap is_rising (take_all 65536 (filter is_name (map (λ file. file.0) files)) few)
    ∙ rising_of (filter is_name (map (λ file. file.0) files)) (sorted_left is_name (map (λ file. file.0) files) (sorted_of (map (λ file. file.0) files) rising))

-- ---- entries

abbrev pub is_old : Entry → Bool
is_old e = e.is_stale

one_new : (name file : Bytes) (o : Option Row) (es : List Entry) → list_any is_old es ≡ false → list_any is_old (cons_option (option_and_then (entry_with name file) o) es) ≡ false
one_new name file None es rest = rest
one_new name file (Some row) es rest = by (bytes_eq (name_of row.key) name && has_extent row.version.length (kept_in row.version.length file) (length file)) (kept_in row.version.length file)
  where
    by : (own : Bool) (extent : ℕ) → list_any is_old (cons_option (elim own as (λ c. Option Entry) [
      | true ↦ Some (record { name = name; key = row.key; version = row.version; fields = kept_of row.fields row.times; times = row.times; extent = extent; is_stale = false })
      | false ↦ None
    ]) es) ≡ false
    by true extent = rest
    by false extent = rest

-- none that is found is stale
pub found_new : (files : Files) → list_any is_old (entries_in files) ≡ false
found_new [] = refl
found_new (p ∷ files) = one_new p.0 p.1 (row_at (take 8192 p.1)) (entries_in files) (found_new files)

pub none_closed : (es : List Entry) → list_any (λ e. has_text e.name []) es ≡ false
none_closed [] = refl
none_closed (e ∷ es) = none_closed es

pub noted_none : (es : List Entry) → list_any is_old es ≡ false → AreNoted [] [] es
noted_none [] none = tt
noted_none (e ∷ es) none = by e.is_stale refl none (λ rest. noted_none es rest)
  where
    or_none : (b : Bool) → (b || false) ≡ b
    or_none true = refl
    or_none false = refl

    by : (old : Bool) → e.is_stale ≡ old → (old || list_any is_old es) ≡ false → (list_any is_old es ≡ false → AreNoted [] [] es) → AreNoted [] [] (e ∷ es)
    by true is none rest = absurd (cc none)
    by false is none rest = (or_none e.is_stale ∙ is, rest none)

-- of those that are left none is so either
pub none_left : (p q : Entry → Bool) (es : List Entry) → list_any p es ≡ false → list_any p (filter q es) ≡ false
none_left p q [] none = refl
none_left p q (e ∷ es) none = by (p e) refl none (λ rest. none_left p q es rest)
  where
    with_it : p e ≡ false → (b : Bool) → list_any p (filter q es) ≡ false → list_any p (cond b (e ∷ filter q es) (filter q es)) ≡ false
    with_it isnt true rest = ap₂ (λ (a b : Bool). a || b) isnt rest
    with_it isnt false rest = rest

    by : (b : Bool) → p e ≡ b → (b || list_any p es) ≡ false → (list_any p es ≡ false → list_any p (filter q es) ≡ false) → list_any p (filter q (e ∷ es)) ≡ false
    by true is none rest = absurd (cc none)
    by false is none rest = with_it is (q e) (rest none)

-- a name is closed, and its entry is out: no other has that name
pub open_left : (name : Bytes) (closed : List Bytes) (es : List Entry) → list_any (λ e. has_text e.name closed) es ≡ false → list_any (λ e. has_text e.name (name ∷ without (bytes_eq name) closed)) (without (is_named name) es) ≡ false
open_left name closed [] none = refl
open_left name closed (e ∷ es) none = by (has_text e.name closed) refl none (λ rest. open_left name closed es rest)
  where
    more : List Bytes
    more = name ∷ without (bytes_eq name) closed

    other : has_text e.name closed ≡ false → bytes_eq e.name name ≡ false → has_text e.name more ≡ false
    other shut isnt = closed_more name e.name closed ∙ ap₂ (λ (a b : Bool). a || b) (bytes_swap name e.name ∙ isnt) shut

    one : has_text e.name closed ≡ false → list_any (λ d. has_text d.name more) (without (is_named name) es) ≡ false → (b : Bool) → is_named name e ≡ b
        → list_any (λ d. has_text d.name more) (cond (not b) (e ∷ without (is_named name) es) (without (is_named name) es)) ≡ false
    one shut rest true is = rest
    one shut rest false is = ap₂ (λ (a b : Bool). a || b) (other shut is) rest

    by : (b : Bool) → has_text e.name closed ≡ b → (b || list_any (λ d. has_text d.name closed) es) ≡ false → (list_any (λ d. has_text d.name closed) es ≡ false → list_any (λ d. has_text d.name more) (without (is_named name) es) ≡ false)
        → list_any (λ d. has_text d.name more) (without (is_named name) (e ∷ es)) ≡ false
    by true is none rest = absurd (cc none)
    by false is none rest = one is (rest none) (is_named name e) refl
