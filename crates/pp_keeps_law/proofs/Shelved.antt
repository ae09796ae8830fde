-- What is kept of a key, behind a draft or a run of another key, and of its own.
use Rattle.std.proofs.Common.{◌≡◌, refl, sym, ap, ◌∙◌, ℕ, Bool, true, false, not, cond, find, List, [], ◌∷◌, ◌++◌, map, Option, Some, None, Result, Ok, Err}
use Rattle.std.specs.Prelude.{bytes_eq, option_map}
use Rattle.pp_cache_law.proofs.Finds.{find_mapped, find_out}
use Rattle.pp_entry.specs.Entries.{Row}
use Rattle.pp_law.specs.Lists.{Bytes}
use Rattle.pp_shelf_law.proofs.Shelves.{bytes_same, same_bytes}
use Rattle.pp_store.proofs.Lists.{found_passes}
use Rattle.pp_store.specs.Changes.{extended, extended_after, extended_to, is_other, kept_after, lost, with_row}
use Rattle.pp_store.specs.Kept.{Kept as KeptRow, KeptMap, is_closed, is_name, is_of, kept_of}
use Rattle.pp_store.specs.declared.faults.KeepFault.{KeepFault}
use Rattle.pp_store.specs.declared.faults.KeepFault.TheVariants.{Closed, Full, TooLong, NoDraft, DiskFault as NotNamed, OutOfMemory}
use Rattle.pp_target.specs.Name.{name_of}
use Rattle.pp_world.specs.declared.disk.DiskFault.{DiskFault}
use Rattle.pp_keeps_law.proofs.Due.{fewer_without}
use Rattle.pp_keeps_law.proofs.Entries.{any_in, in_last}

find_but : {A : Type 0} (p : A → Bool) (xs : List A) (y : A) → p y ≡ false → find p (xs ++ y ∷ []) ≡ find p xs
find_but {A} p [] y isnt = ap (λ (b : Bool). cond b (Some y) None) isnt
find_but {A} p (x ∷ xs) y isnt = ap (λ (o : Option A). cond (p x) (Some x) o) (find_but p xs y isnt)

find_new : {A : Type 0} (p : A → Bool) (xs : List A) (y : A) → find p xs ≡ None → p y ≡ true → find p (xs ++ y ∷ []) ≡ Some y
find_new {A} p [] y none is = ap (λ (b : Bool). cond b (Some y) None) is
find_new {A} p (x ∷ xs) y none is = by (p x) none (λ rest. find_new p xs y rest is)
  where
    by : (b : Bool) → cond b (Some x) (find p xs) ≡ None → (find p xs ≡ None → find p (xs ++ y ∷ []) ≡ Some y) → cond b (Some x) (find p (xs ++ y ∷ [])) ≡ Some y
    by true some rest = absurd (cc some)
    by false none rest = rest none

-- ---- a draft

pub others_drafted : (r : Result (Unit {0}) KeepFault) (e : Row) (w : ℕ) (shelf : KeptMap) (k : Bytes) → bytes_eq e.key k ≡ false → kept_of k (kept_after r e w shelf) ≡ kept_of k shelf
others_drafted (Ok done) e w shelf k other = find_but (is_of k) shelf.rows (record { entry = e; extent = w }) other
others_drafted (Err Closed) e w shelf k other = refl
others_drafted (Err Full) e w shelf k other = refl
others_drafted (Err TooLong) e w shelf k other = refl
others_drafted (Err NoDraft) e w shelf k other = refl
others_drafted (Err NotNamed) e w shelf k other = refl
others_drafted (Err OutOfMemory) e w shelf k other = refl

pub own_drafted : (e : Row) (w : ℕ) (shelf : KeptMap) → kept_of e.key shelf ≡ None → kept_of e.key (with_row e w shelf) ≡ Some (record { entry = e; extent = w })
own_drafted e w shelf none = find_new (is_of e.key) shelf.rows (record { entry = e; extent = w }) none (bytes_same e.key)

pub own_lost_draft : (fault : KeepFault) (e : Row) (w : ℕ) (shelf : KeptMap) → kept_of e.key (kept_after {A = Unit {0}} (Err fault) e w shelf) ≡ kept_of e.key shelf
own_lost_draft Closed e w shelf = refl
own_lost_draft Full e w shelf = refl
own_lost_draft TooLong e w shelf = refl
own_lost_draft NoDraft e w shelf = refl
own_lost_draft NotNamed e w shelf = refl
own_lost_draft OutOfMemory e w shelf = refl

-- ---- a run

abbrev longer : Bytes → ℕ → KeptRow → KeptRow
longer key far row = cond (is_of key row) (extended_to far row) row

others_longer : (key k : Bytes) (far : ℕ) (rows : List KeptRow) → bytes_eq key k ≡ false → find (is_of k) (map (longer key far) rows) ≡ find (is_of k) rows
others_longer key k far [] other = refl
others_longer key k far (row ∷ rows) other = by (is_of key row) refl (others_longer key k far rows other)
  where
    by : (b : Bool) → is_of key row ≡ b → find (is_of k) (map (longer key far) rows) ≡ find (is_of k) rows
        → cond (is_of k (cond b (extended_to far row) row)) (Some (cond b (extended_to far row) row)) (find (is_of k) (map (longer key far) rows)) ≡ cond (is_of k row) (Some row) (find (is_of k) rows)
    by true own rest =
        let out : bytes_eq row.entry.key k ≡ false = ap (λ (t : Bytes). bytes_eq t k) (same_bytes row.entry.key key own) ∙ other in
        ap (λ (b : Bool). cond b (Some (extended_to far row)) (find (is_of k) (map (longer key far) rows))) out ∙ rest ∙ sym (ap (λ (b : Bool). cond b (Some row) (find (is_of k) rows)) out)
    by false own rest = ap (λ (o : Option KeptRow). cond (is_of k row) (Some row) o) rest

pub others_sealed : (r : Result ℕ DiskFault) (key : Bytes) (shelf : KeptMap) (k : Bytes) (kept : KeptRow) → bytes_eq key k ≡ false → kept_of k (extended_after r key shelf) ≡ Some kept → kept_of k shelf ≡ Some kept
others_sealed (Ok far) key shelf k kept other is = sym (others_longer key k far shelf.rows other) ∙ is
others_sealed (Err fault) key shelf k kept other is = fewer_without key k shelf kept is

pub own_sealed : (far : ℕ) (key : Bytes) (shelf : KeptMap) (kept : KeptRow) → kept_of key shelf ≡ Some kept → kept_of key (extended key far shelf) ≡ Some (extended_to far kept)
own_sealed far key shelf kept there =
    find_mapped (is_of key) (longer key far) shelf.rows (λ row. by row (is_of key row))
    ∙ ap (λ (o : Option KeptRow). option_map (longer key far) o) there
    ∙ ap (λ (b : Bool). Some (cond b (extended_to far kept) kept)) (found_passes (is_of key) shelf.rows kept there)
  where
    by : (row : KeptRow) → (b : Bool) → is_of key (cond b (extended_to far row) row) ≡ is_of key row
    by row true = refl
    by row false = refl

pub own_gone : (key : Bytes) (shelf : KeptMap) → kept_of key (lost key shelf) ≡ None
own_gone key shelf = find_out (is_of key) (is_other key) shelf.rows (λ row passes. by (is_of key row) passes)
  where
    by : (b : Bool) → not b ≡ true → b ≡ false
    by true is = absurd (cc is)
    by false is = refl

pub own_closed : (key : Bytes) (shelf : KeptMap) → is_closed (name_of key) (lost key shelf) ≡ true
own_closed key shelf = any_in (is_name (name_of key)) (name_of key) (shelf.closed ++ name_of key ∷ []) (in_last (name_of key) shelf.closed) (bytes_same (name_of key))
