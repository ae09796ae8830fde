-- What the disk holds after an operation on one name.
use Rattle.std.proofs.Common.{◌≡◌, inl, inr, ℕ, ◌≤◌, Bool, true, false, not, ◌||◌, List, [], ◌∷◌, filter, get_or, Option, Some, None, arith, refl, sym, ◌∙◌, ap, subst}
use Rattle.std.specs.Prelude.{is_some, bytes_eq, count_by}
use Rattle.std.specs.List.{find, list_any, All}
use Rattle.std.proofs.lemmas.List.Elements.{All-push}
use Rattle.std.proofs.lemmas.List.Folds.{list_any-append}
use Rattle.std.proofs.lemmas.Slice.Eq.{bytes_eq-Decides}
use Rattle.pp_world.specs.Log.{Log}
use Rattle.pp_world.specs.Disk.{Bytes, Stored, view_of, LeavesOne}
use Rattle.pp_target.specs.Name.{name_of}
use Rattle.pp_store.specs.Kept.{Kept, KeptMap, HasOwnNames, name_at, is_of, is_under, is_name, is_closed, kept_under}
use Rattle.pp_store.specs.Changes.{with_row, with_closed, without, lost, extended, extended_to, is_other}
use Rattle.pp_gate.specs.Files.{Sent}
use Rattle.pp_store.specs.Held.{IsHeld, Holds, IsEntryUnder, Covers}
use Rattle.pp_store.proofs.Lists.{none_pass, find_none, found_passes, only, All-filter, All-changed, still_found, same_found, pushed_found}
use Rattle.pp_store.proofs.Names.{of_key, same_key}
use Rattle.pp_store.proofs.Running.{After}

pub same_slot : (sent : Sent) (k l : Log) (row : Kept) → (view_of (name_at row) l).slot ≡ (view_of (name_at row) k).slot → (view_of (name_at row) l).failed ≡ (view_of (name_at row) k).failed
    → IsHeld sent k row → IsHeld sent l row
same_slot sent k l row is sound held = record {
  keeps = record { bytes = held.keeps.bytes; slot = is ∙ held.keeps.slot; sound = sound ∙ held.keeps.sound; kept = held.keeps.kept; holds = held.keeps.holds };
  reads = held.reads;
}

pub under_it : (name : Bytes) (row : Kept) → is_under name row ≡ false → name ≡ name_at row → ⊥
under_it name row off is = wrong (sym ((bytes_eq-Decides (name_at row) name).1 (sym is)) ∙ off)
  where
    wrong : true ≡ false → ⊥
    wrong e = absurd cc

-- an entry under another name is held as before
still_held : (sent : Sent) (name : Bytes) (ok : Bool) (k l : Log) (row : Kept) → After name ok k l → is_under name row ≡ false → IsHeld sent k row → IsHeld sent l row
still_held sent name ok k l row after off held = same_slot sent k l row (after.slots (name_at row) (under_it name row off)) (after.fails (name_at row) (under_it name row off)) held

wrong : {A : Type 0} → true ≡ false → A
wrong e = absurd cc

-- what is known of an entry of the store: it is the one of the key, or it is under another name and held as before
module _ (sent : Sent) (store : KeptMap) (key : List ℕ) (row : Kept) (ok : Bool) (k l : Log)
    (own : HasOwnNames store) (found : find (is_of key) store.rows ≡ Some row) (held : All (IsHeld sent k) store.rows) (after : After (name_of key) ok k l) where
  one_there : count_by (is_under (name_of key)) store.rows ≤ 1
  one_there = omega (arith, own.once (name_of key))

  abbrev Apart : Kept → Type 0
  Apart r = (is_of key r ≡ true → r ≡ row) × (is_of key r ≡ false → IsHeld sent l r)

  apart : (r : Kept) → (is_under (name_of key) r ≡ true → r ≡ row) → IsHeld sent k r → Apart r
  apart r sole was = (
    (λ of. sole (of_key key r of)),
    (λ off. by (is_under (name_of key) r) refl off),
  )
    where
      by : (b : Bool) → is_under (name_of key) r ≡ b → is_of key r ≡ false → IsHeld sent l r
      by true under off = wrong (sym (found_passes (is_of key) store.rows row found) ∙ sym (ap (is_of key) (sole under)) ∙ off)
      by false under off = still_held sent (name_of key) ok k l r after under was

  all_apart : All Apart store.rows
  all_apart i d lt = apart (get_or store.rows i d) (only (is_under (name_of key)) (is_of key) store.rows row (of_key key) one_there found i d lt) (held i d lt)

  not_it : (r : Kept) → Apart r → is_other key r ≡ true → IsHeld sent l r
  not_it r a other = a.1 (by (is_of key r) other)
    where
      by : (b : Bool) → not b ≡ true → b ≡ false
      by true e = absurd cc
      by false e = refl

  pub held-without : All (IsHeld sent l) (filter (is_other key) store.rows)
  held-without = All-filter (is_other key) Apart (IsHeld sent l) store.rows all_apart not_it

  pub held-extended : (extent : ℕ) → IsHeld sent l (extended_to extent row) → All (IsHeld sent l) (extended key extent store).rows
  held-extended extent new = All-changed (is_of key) (extended_to extent) Apart (IsHeld sent l) store.rows all_apart
      (λ r a of. subst (λ (x : Kept). IsHeld sent l (extended_to extent x)) (sym (a.0 of)) new)
      (λ r a off. a.1 off)

-- the closed names
is_itself : (n m : Bytes) → n ≡ m → is_name m n ≡ true
is_itself n m is = (bytes_eq-Decides n m).1 is

pub closed-more : (name other : Bytes) (store : KeptMap) → is_closed other store ≡ true → is_closed other (with_closed name store) ≡ true
closed-more name other store is = list_any-append (is_name other) store.closed (name ∷ []) ∙ ap (λ b. b || (is_name other name || false)) is

or_true : (a b : Bool) → b ≡ true → (a || (b || false)) ≡ true
or_true true b is = refl
or_true false true is = refl
or_true false false is = absurd cc

pub closed-new : (name other : Bytes) (store : KeptMap) → name ≡ other → is_closed other (with_closed name store) ≡ true
closed-new name other store is = list_any-append (is_name other) store.closed (name ∷ []) ∙ or_true (list_any (is_name other) store.closed) (is_name other name) (is_itself name other is)

or_left : (a b : Bool) → (a || (b || false)) ≡ false → a ≡ false
or_left true b e = absurd cc
or_left false b e = refl

or_right : (a b : Bool) → (a || (b || false)) ≡ false → b ≡ false
or_right true b e = absurd cc
or_right false true e = absurd cc
or_right false false e = refl

pub open-before : (name other : Bytes) (store : KeptMap) → is_closed other (with_closed name store) ≡ false → is_closed other store ≡ false
open-before name other store free = or_left (list_any (is_name other) store.closed) (is_name other name) (sym (list_any-append (is_name other) store.closed (name ∷ [])) ∙ free)

-- where all was done, no name more failed
failed-none : (name : Bytes) (k l : Log) (store : KeptMap) → After name true k l → ((n : Bytes) → (view_of n k).failed ≡ true → is_closed n store ≡ true)
    → (n : Bytes) → (view_of n l).failed ≡ true → is_closed n store ≡ true
failed-none name k l store after was n failed = by (bytes_eq name n) refl
  where
    by : (b : Bool) → bytes_eq name n ≡ b → is_closed n store ≡ true
    by true is =
        let same : name ≡ n = (bytes_eq-Decides name n).0 is in
        was n (ap (λ (m : Bytes). (view_of m k).failed) (sym same) ∙ sym (after.own refl) ∙ ap (λ (m : Bytes). (view_of m l).failed) same ∙ failed)
    by false is = was n (sym (after.fails n (λ same. wrong (sym ((bytes_eq-Decides name n).1 same) ∙ is))) ∙ failed)

-- else this one may have, and is closed
failed-one : (name : Bytes) (ok : Bool) (k l : Log) (store : KeptMap) → After name ok k l → ((n : Bytes) → (view_of n k).failed ≡ true → is_closed n store ≡ true)
    → (n : Bytes) → (view_of n l).failed ≡ true → is_closed n (with_closed name store) ≡ true
failed-one name ok k l store after was n failed = by (bytes_eq name n) refl
  where
    by : (b : Bool) → bytes_eq name n ≡ b → is_closed n (with_closed name store) ≡ true
    by true is = closed-new name n store ((bytes_eq-Decides name n).0 is)
    by false is = closed-more name n store (was n (sym (after.fails n (λ same. wrong (sym ((bytes_eq-Decides name n).1 same) ∙ is))) ∙ failed))

-- ---- the store after each call

pub holds-without : (sent : Sent) (store : KeptMap) (key : List ℕ) (row : Kept) (k l : Log) → HasOwnNames store → find (is_of key) store.rows ≡ Some row → Holds sent store k → After (name_of key) true k l → Holds sent (without key store) l
holds-without sent store key row k l own found held after = record {
  rows = held-without sent store key row true k l own found held.rows after;
  failed = failed-none (name_of key) k l store after held.failed;
}

pub holds-lost : (sent : Sent) (store : KeptMap) (key : List ℕ) (row : Kept) (ok : Bool) (k l : Log) → HasOwnNames store → find (is_of key) store.rows ≡ Some row → Holds sent store k → After (name_of key) ok k l → Holds sent (lost key store) l
holds-lost sent store key row ok k l own found held after = record {
  rows = held-without sent store key row ok k l own found held.rows after;
  failed = failed-one (name_of key) ok k l store after held.failed;
}

pub holds-extended : (sent : Sent) (store : KeptMap) (key : List ℕ) (row : Kept) (extent : ℕ) (k l : Log) → HasOwnNames store → find (is_of key) store.rows ≡ Some row → Holds sent store k → After (name_of key) true k l
    → IsHeld sent l (extended_to extent row) → Holds sent (extended key extent store) l
holds-extended sent store key row extent k l own found held after new = record {
  rows = held-extended sent store key row true k l own found held.rows after extent new;
  failed = failed-none (name_of key) k l store after held.failed;
}

none_under : (store : KeptMap) (name : Bytes) → kept_under name store ≡ None → All (λ r. is_under name r ≡ false) store.rows
none_under store name absent = none_pass (is_under name) store.rows (find_none (is_under name) store.rows absent)

pub holds-with_row : (sent : Sent) (store : KeptMap) (row : Kept) (k l : Log) → kept_under (name_at row) store ≡ None → Holds sent store k → After (name_at row) true k l → IsHeld sent l row → Holds sent (with_row row.entry row.extent store) l
holds-with_row sent store row k l absent held after new = record {
  rows = All-push (IsHeld sent l) store.rows row
      (λ i d lt. still_held sent (name_at row) true k l (get_or store.rows i d) after (none_under store (name_at row) absent i d lt) (held.rows i d lt)) new;
  failed = failed-none (name_at row) k l store after held.failed;
}

pub holds-with_closed : (sent : Sent) (store : KeptMap) (name : Bytes) (ok : Bool) (k l : Log) → kept_under name store ≡ None → Holds sent store k → After name ok k l → Holds sent (with_closed name store) l
holds-with_closed sent store name ok k l absent held after = record {
  rows = λ i d lt. still_held sent name ok k l (get_or store.rows i d) after (none_under store name absent i d lt) (held.rows i d lt);
  failed = failed-one name ok k l store after held.failed;
}

-- ---- an entry stands under a kept or a closed name alone

covers-by : (store next : KeptMap) (name : Bytes) (ok : Bool) (k l : Log) → After name ok k l → Covers store k
    → ((n : Bytes) → (name ≡ n → ⊥) → is_some (kept_under n next) ≡ false → is_some (kept_under n store) ≡ false)
    → ((n : Bytes) → is_closed n next ≡ false → is_closed n store ≡ false)
    → (is_some (kept_under name next) ≡ false → is_closed name next ≡ false → (file : Bytes) → LeavesOne (view_of name l).slot (Some file) → IsEntryUnder name file → ⊥)
    → Covers next l
covers-by store next name ok k l after was kept closed this = record { each = λ n absent free file left entry. by n absent free file left entry (bytes_eq name n) refl }
  where
    by : (n : Bytes) → is_some (kept_under n next) ≡ false → is_closed n next ≡ false → (file : Bytes) → LeavesOne (view_of n l).slot (Some file) → IsEntryUnder n file → (b : Bool) → bytes_eq name n ≡ b → ⊥
    by n absent free file left entry true is =
        let same : n ≡ name = sym ((bytes_eq-Decides name n).0 is) in
        this (ap (λ (m : Bytes). is_some (kept_under m next)) (sym same) ∙ absent) (ap (λ (m : Bytes). is_closed m next) (sym same) ∙ free) file
        (subst (λ (m : Bytes). LeavesOne (view_of m l).slot (Some file)) same left) (subst (λ (m : Bytes). IsEntryUnder m file) same entry)
    by n absent free file left entry false is =
        let differ : name ≡ n → ⊥ = λ same. wrong (sym ((bytes_eq-Decides name n).1 same) ∙ is) in
        was.each n (kept n differ absent) (closed n free) file (subst (λ (s : List (Option Stored)). LeavesOne s (Some file)) (after.slots n differ) left) entry

-- another name than the key's is kept as before
other_kept : (store : KeptMap) (key : List ℕ) (n : Bytes) → (name_of key ≡ n → ⊥) → is_some (kept_under n (without key store)) ≡ false → is_some (kept_under n store) ≡ false
other_kept store key n differ absent = sym (ap (λ (o : Option Kept). is_some o) (still_found (is_under n) (is_of key) store.rows apart)) ∙ absent
  where
    apart : (r : Kept) → is_of key r ≡ true → is_under n r ≡ false
    apart r of = by (is_under n r) refl
      where
        by : (b : Bool) → is_under n r ≡ b → b ≡ false
        by true is = absurd (differ (sym (ap name_of (same_key key r of)) ∙ (bytes_eq-Decides (name_at r) n).0 is))
        by false is = refl

pub covers-lost : (store : KeptMap) (key : List ℕ) (ok : Bool) (k l : Log) → After (name_of key) ok k l → Covers store k → Covers (lost key store) l
covers-lost store key ok k l after was = covers-by store (lost key store) (name_of key) ok k l after was (other_kept store key) (λ n. open-before (name_of key) n store)
    (λ absent free file left entry. wrong (sym (closed-new (name_of key) (name_of key) store refl) ∙ free))

pub covers-without : (store : KeptMap) (key : List ℕ) (k l : Log) → (view_of (name_of key) l).slot ≡ None ∷ [] → After (name_of key) true k l → Covers store k → Covers (without key store) l
covers-without store key k l none after was = covers-by store (without key store) (name_of key) true k l after was (other_kept store key) (λ n free. free)
    (λ absent free file left entry. no_file file (subst (λ (s : List (Option Stored)). LeavesOne s (Some file)) none left))
  where
    no_file : (file : Bytes) → LeavesOne (None ∷ []) (Some file) → ⊥
    no_file file (inl bad) = bad
    no_file file (inr bad) = bad

pub covers-extended : (store : KeptMap) (key : List ℕ) (extent : ℕ) (k l : Log) → is_some (kept_under (name_of key) store) ≡ true → After (name_of key) true k l → Covers store k → Covers (extended key extent store) l
covers-extended store key extent k l there after was = covers-by store (extended key extent store) (name_of key) true k l after was (λ n differ absent. sym (same n) ∙ absent) (λ n free. free)
    (λ absent free file left entry. wrong (sym there ∙ sym (same (name_of key)) ∙ absent))
  where
    same : (n : Bytes) → is_some (kept_under n (extended key extent store)) ≡ is_some (kept_under n store)
    same n = same_found (is_under n) (is_of key) (extended_to extent) store.rows (λ r. refl)

or_first : (a b : Bool) → (a || b) ≡ false → a ≡ false
or_first true b e = absurd cc
or_first false b e = refl

or_last : (a b : Bool) → b ≡ true → (a || b) ≡ true
or_last true b e = refl
or_last false b e = e

pub covers-with_row : (store : KeptMap) (row : Kept) (k l : Log) → After (name_at row) true k l → Covers store k → Covers (with_row row.entry row.extent store) l
covers-with_row store row k l after was = covers-by store (with_row row.entry row.extent store) (name_at row) true k l after was
    (λ n differ absent. or_first (is_some (kept_under n store)) (is_under n row) (sym (pushed_found (is_under n) store.rows row) ∙ absent)) (λ n free. free)
    (λ absent free file left entry. wrong (sym (pushed_found (is_under (name_at row)) store.rows row ∙ or_last (is_some (kept_under (name_at row) store)) (is_under (name_at row) row) ((bytes_eq-Decides (name_at row) (name_at row)).1 refl)) ∙ absent))

pub covers-with_closed : (store : KeptMap) (name : Bytes) (ok : Bool) (k l : Log) → After name ok k l → Covers store k → Covers (with_closed name store) l
covers-with_closed store name ok k l after was = covers-by store (with_closed name store) name ok k l after was (λ n differ absent. absent) (λ n. open-before name n store)
    (λ absent free file left entry. wrong (sym (closed-new name name store refl) ∙ free))
