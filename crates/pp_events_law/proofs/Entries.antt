-- The entry of which the next byte is read, in the law and on the shelf.
use Rattle.std.proofs.Common.{◌≡◌, ◌⊎◌, ◌<◌, ◌≤◌, inl, inr, refl, sym, subst, ap, ◌∙◌, ℕ, ◌-◌, ◌*◌, ◌/◌, ◌%◌, Bool, true, false, not, cond, find, length, min, nat_lt, List, [], ◌∷◌, Option, Some, None, arith}
use Rattle.std.proofs.lemmas.Bool.Decides.{nat_tests}
use Rattle.std.specs.Prelude.{unwrap_or}
use Rattle.pp_cache_law.proofs.Numbers.{some_is}
use Rattle.pp_law.specs.Chunks.{chunk_bytes, filled, is_in_memory}
use Rattle.pp_law.specs.Lists.{Bytes}
use Rattle.pp_law.specs.State.{State, Entry, Instance as Known}
use Rattle.pp_law.specs.Store.{is_closed}
use Rattle.pp_law.specs.Table.{extent_of, instance, is_entry_of, is_kept_row_of, is_row_of, kept_row, row}
use Rattle.pp_laws.proofs.Lists.{in_find}
use Rattle.pp_laws.proofs.Tests.{second_holds}
use Rattle.pp_laws.specs.Runs.{IsIn}
use Rattle.pp_obeys.proofs.Silent.{both_hold}
use Rattle.pp_shelf.specs.Given.{keeps_byte}
use Rattle.pp_shelf_law.proofs.Finding.{found_is, kept_ones, named_in, others}
use Rattle.pp_shelf_law.proofs.Shelves.{bytes_same, same_bytes}
use Rattle.pp_shelf_law.specs.Kept.{IsOf}
use Rattle.pp_shelf_law.specs.Shelf.{ShowsEntry}
use Rattle.pp_store.specs.Kept.{IsExtent, Kept, KeptMap, kept_of, no_row, row_of}
use Rattle.pp_target.specs.Name.{name_of}
use Rattle.pp_valid.specs.declared.version.Version.{Version}
use Rattle.pp_events_law.proofs.AtHand.{less_test}
use Rattle.pp_events_law.proofs.Lists.{none_in}
use Rattle.pp_events_law.specs.ToLoad.{StandsOnDisk}

some_found : {A : Type 0} (p : A → Bool) (x : A) (xs : List A) → IsIn x xs → p x ≡ true → find p xs ≡ None → ⊥
some_found p x [] i holds none = i
some_found {A} p x (y ∷ ys) i holds none = by (p y) refl none i (λ j later. some_found p x ys j holds later)
  where
    by : (b : Bool) → p y ≡ b → cond b (Some y) (find p ys) ≡ None → IsIn x (y ∷ ys) → (IsIn x ys → find p ys ≡ None → ⊥) → ⊥
    by true is eq j rest = cc eq
    by false is eq (inl same) rest = let both : true ≡ false = sym holds ∙ ap p same ∙ is in cc both
    by false is eq (inr j) rest = rest j eq

-- ---- what is kept

record IsKeptRow (s : State) (x : Known) (at : ℕ) : Type 0 where
  row : x.is_retired ≡ false
  entry : Entry
  kept : kept_row s x.key ≡ Some entry
  below : at < entry.extent

kept_row_of : (s : State) (x : Known) (at : ℕ) → at < extent_of s x → IsKeptRow s x at
kept_row_of s x at less = by x.is_retired refl (kept_row s x.key) refl less
  where
    by : (b : Bool) → x.is_retired ≡ b → (o : Option Entry) → kept_row s x.key ≡ o → at < (elim b as (λ t. ℕ) [ true ↦ 0 | false ↦ elim o as (λ t. ℕ) [ None ↦ 0 | Some e ↦ e.extent ] ]) → IsKeptRow s x at
    by true row o kept lt = absurd (omega (arith, lt))
    by false row None kept lt = absurd (omega (arith, lt))
    by false row (Some e) kept lt = record { row = row; entry = e; kept = kept; below = lt }

within : (n extent at : ℕ) → IsExtent n extent → at < extent → at < n
within n extent at whole less = omega (arith, whole, less)

first_kept : (extent at : ℕ) → at < extent → 4096 * (at / 4096) < extent
first_kept extent at less = omega (arith, less)

not_less : (a b : ℕ) → nat_lt a b ≡ false → b ≤ a
not_less a b is = grind (arith, nat_tests)

chunk_below : (at extent : ℕ) → at < extent → at / 4096 * 4096 < extent
chunk_below at extent less = omega (arith, less)

-- all of a chunk is there, but not this byte of it
whole_has : (at n k : ℕ) → at < n → k ≡ min 4096 (n - at / 4096 * 4096) → k ≤ at % 4096 → ⊥
whole_has at n k inside size none = omega (arith, inside, size, none)

-- the entry that stands for the row of which this byte is read, in the law and on the shelf
pub record IsReadOf (shelf : KeptMap) (s : State) (x : Known) (at : ℕ) : Type 0 where
  pub unretired : x.is_retired ≡ false
  pub entry : Entry
  pub kept_in_law : kept_row s x.key ≡ Some entry
  pub version : entry.version ≡ x.version
  pub key : entry.key ≡ x.key
  pub found : find (is_entry_of x.key) s.entries ≡ Some entry
  pub name : entry.name ≡ name_of x.key
  pub unclosed : is_closed s entry.name ≡ false
  pub kept : Kept
  pub there : kept_of x.key shelf ≡ Some kept
  pub row_is : row_of x.key shelf ≡ kept
  pub shows : ShowsEntry kept entry
  -- its chunk is kept
  pub first : 4096 * (at / 4096) < entry.extent
  pub keeps : keeps_byte (4096 * (at / 4096)) (Some kept) ≡ true
  pub inside : at < x.version.length
  pub stands_for : row s x.key ≡ Some x
  -- and nothing of it is in memory
  pub none : chunk_bytes x.id (at / 4096) s.chunks ≡ []

module _ (shelf : KeptMap) (s : State) (disk : StandsOnDisk shelf s) (id : ℕ) (x : Known) (at : ℕ) (known : instance s id ≡ Some x) (its : id ≡ x.id) (below : at < extent_of s x) (missing : is_in_memory s x.id at ≡ false) where
  abbrev its_row : IsKeptRow s x at
  its_row = kept_row_of s x at below

  unretired : x.is_retired ≡ false
  unretired = its_row.row

  abbrev e : Entry
  e = its_row.entry

  kept_is : kept_row s x.key ≡ Some e
  kept_is = its_row.kept

  version : e.version ≡ x.version
  version = disk.versions id x e known unretired kept_is

  in_entries : IsIn e s.entries
  in_entries = (in_find (is_kept_row_of x.key) e s.entries kept_is).0

  e_key : e.key ≡ x.key
  e_key = same_bytes e.key x.key (second_holds (not e.is_stale) (is_entry_of x.key e) (in_find (is_kept_row_of x.key) e s.entries kept_is).1)

  e_found : find (is_entry_of x.key) s.entries ≡ Some e
  e_found = found_is x.key e s.entries disk.shows.named disk.shows.once in_entries e_key

  e_name : e.name ≡ name_of x.key
  e_name = named_in e s.entries disk.shows.named in_entries ∙ ap name_of e_key

  unclosed : is_closed s e.name ≡ false
  unclosed = none_in (λ (d : Entry). is_closed s d.name) e s.entries disk.names in_entries

  -- ---- on the shelf

  record IsOnShelf : Type 0 where
    kept : Kept
    there : kept_of x.key shelf ≡ Some kept
    shows : ShowsEntry kept e

  on_shelf : IsOnShelf
  on_shelf = by (kept_of x.key shelf) refl
    where
      by : (o : Option Kept) → kept_of x.key shelf ≡ o → IsOnShelf
      by None none = absurd (let both : true ≡ false = sym (others shelf s x.key e disk.shows none e_found) ∙ unclosed in cc both)
      by (Some kept) is =
          let of : IsOf x.key kept s = kept_ones shelf s x.key kept disk.shows is in
          record { kept = kept; there = is; shows = subst (λ (d : Entry). ShowsEntry kept d) (some_is of.entry e (sym of.there ∙ e_found)) of.shows }

  row_is : row_of x.key shelf ≡ on_shelf.kept
  row_is = ap (λ (o : Option Kept). unwrap_or o no_row) on_shelf.there

  first : 4096 * (at / 4096) < e.extent
  first = first_kept e.extent at its_row.below

  inside : at < x.version.length
  inside = subst (λ (v : Version). at < v.length) version (within e.version.length e.extent at on_shelf.shows.whole its_row.below)

  keeps : keeps_byte (4096 * (at / 4096)) (Some on_shelf.kept) ≡ true
  keeps =
      less_test (4096 * (at / 4096)) on_shelf.kept.extent (subst (λ (k : ℕ). 4096 * (at / 4096) < k) (sym on_shelf.shows.extent) (first_kept e.extent at its_row.below))

  -- ---- in memory

  its_own : is_row_of x.key x ≡ true
  its_own = both_hold (not x.is_retired) _ (ap not unretired) (bytes_same x.key)

  in_instances : IsIn x s.instances
  in_instances = (in_find _ x s.instances known).0

  -- the row of its key
  stands_for : row s x.key ≡ Some x
  stands_for = by (row s x.key) refl
    where
      by : (o : Option Known) → row s x.key ≡ o → row s x.key ≡ Some x
      by None none = absurd (some_found (is_row_of x.key) x s.instances in_instances its_own none)
      by (Some y) is =
          let found : IsIn y s.instances × (is_row_of x.key y ≡ true) = in_find (is_row_of x.key) y s.instances is in
          is ∙ ap (λ (z : Known). Some z) (disk.alone x.key y x found.0 in_instances found.1 its_own)

  -- nothing of the chunk
  none_filled : filled x.id (at / 4096) s.chunks ≡ 0
  none_filled = by (disk.whole id (at / 4096) x known (chunk_below at (extent_of s x) below))
    where
      few : filled x.id (at / 4096) s.chunks ≤ at % 4096
      few = not_less (at % 4096) (filled x.id (at / 4096) s.chunks) missing

      by : (filled id (at / 4096) s.chunks ≡ 0) ⊎ (filled id (at / 4096) s.chunks ≡ min 4096 (x.version.length - at / 4096 * 4096)) → filled x.id (at / 4096) s.chunks ≡ 0
      by (inl none) = ap (λ (k : ℕ). filled k (at / 4096) s.chunks) (sym its) ∙ none
      by (inr size) = absurd (whole_has at x.version.length (filled x.id (at / 4096) s.chunks) inside (ap (λ (k : ℕ). filled k (at / 4096) s.chunks) (sym its) ∙ size) few)

  none_there : chunk_bytes x.id (at / 4096) s.chunks ≡ []
  none_there = empty (chunk_bytes x.id (at / 4096) s.chunks) none_filled
    where
      empty : (bytes : Bytes) → length bytes ≡ 0 → bytes ≡ []
      empty [] is = refl
      empty (b ∷ bs) is = absurd (omega (arith, is))

  pub is_read_of : IsReadOf shelf s x at
  is_read_of = record {
    unretired = unretired;
    entry = e;
    kept_in_law = kept_is;
    version = version;
    key = e_key;
    found = e_found;
    name = e_name;
    unclosed = unclosed;
    kept = on_shelf.kept;
    there = on_shelf.there;
    row_is = row_is;
    shows = on_shelf.shows;
    first = first;
    keeps = keeps;
    inside = inside;
    stands_for = stands_for;
    none = none_there;
  }
