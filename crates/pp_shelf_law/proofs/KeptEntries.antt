-- Each entry of a shelf has the fields that are kept of them: as it opens, and behind each call.
use Rattle.std.proofs.Common.{◌≡◌, refl, subst, ℕ, Bool, true, false, cond, List, [], ◌∷◌, ◌++◌, map, filter, take, Option, Some, None, Ok, Err}
use Rattle.std.specs.Prelude.{All, bytes_eq, find, if◌then◌else◌, option_map}
use Rattle.std.specs.List.{cons_option, filter_map}
use Rattle.std.specs.Option.{option_and_then}
use Rattle.std.proofs.lemmas.List.Elements.{All-nil, All-append, All-cons, All-filter, All-head, All-tail}
use Rattle.pp_cache_law.specs.Kept.{AreKept}
use Rattle.pp_entry.specs.Entries.{Row, row_at}
use Rattle.pp_law.specs.Lists.{Bytes}
use Rattle.pp_recover.specs.Image.{entry_in, entry_of, extent_if, head_in, kept_with, named_for}
use Rattle.pp_recover.specs.Opening.{entry_unless, failed_on}
use Rattle.pp_store.specs.Changes.{extended_to, is_other}
use Rattle.pp_store.specs.Kept.{Kept, KeptMap, is_of}
use Rattle.pp_store.specs.declared.faults.KeepFault.TheVariants.{Closed, Full, TooLong, NoDraft, DiskFault, OutOfMemory}
use Rattle.pp_target.specs.Name.{name_of}
use Rattle.pp_world.specs.Disk.{names_in}
use Rattle.pp_world.specs.Files.{file_of}
use Rattle.pp_shelf_law.specs.AsKept.{DraftsStayAsKept, EachIsKeptSo, IsAsKept, LoadsStayAsKept, OpenedOnesAreAsKept, SealsStayAsKept, TakingsStayAsKept}
use Rattle.pp_shelf_law.proofs.KeptFields.{read_kept}

-- ---- of a key

found_kept : (p : Kept → Bool) (rows : List Kept) (kept : Kept) → All IsAsKept rows → find p rows ≡ Some kept → IsAsKept kept
found_kept p [] kept all is = absurd (cc is)
found_kept p (row ∷ rows) kept all is = by (p row) is (found_kept p rows kept (All-tail IsAsKept row rows all))
  where
    by : (b : Bool) → cond b (Some row) (find p rows) ≡ Some kept → (find p rows ≡ Some kept → IsAsKept kept) → IsAsKept kept
    by true is more = let e : row ≡ kept = cc is in subst IsAsKept e (All-head IsAsKept row rows all)
    by false is more = more is

pub each_so : EachIsKeptSo
each_so shelf all key kept is = found_kept (is_of key) shelf.rows kept all is

-- ---- a folder that opens

entry_kept : (name file : Bytes) (kept : Kept) → entry_in name file ≡ Some kept → IsAsKept kept
unfolding entry_in head_in
entry_kept name file kept is = by (row_at (take 8192 file)) refl is
  where
    with_extent : (row : Row) → AreKept row.fields row.times → (o : Option ℕ) → option_map (λ (extent : ℕ). let k : Kept = record { entry = row; extent = extent } in k) o ≡ Some kept → IsAsKept kept
    with_extent row so (Some extent) is =
        let k : Kept = record { entry = row; extent = extent } in
        let e : k ≡ kept = cc is in
        subst IsAsKept e so
    with_extent row so None is = absurd (cc is)

    named : (row : Row) → AreKept row.fields row.times → (own : Bool) → option_and_then (kept_with file) (if own then Some row else None) ≡ Some kept → IsAsKept kept
    named row so true is = with_extent row so (extent_if row.version.length file) is
    named row so false is = absurd (cc is)

    by : (o : Option Row) → row_at (take 8192 file) ≡ o → option_and_then (kept_with file) (option_and_then (named_for name) o) ≡ Some kept → IsAsKept kept
    by None found is = absurd (cc is)
    by (Some row) found is = named row (read_kept (take 8192 file) row found) (bytes_eq (name_of row.key) name) is

unless_kept : (failed : Bool) (name : Bytes) (file : Option Bytes) (kept : Kept) → entry_unless failed (entry_of name file) ≡ Some kept → IsAsKept kept
unless_kept true name file kept is = absurd (cc is)
unless_kept false name None kept is = absurd (cc is)
unless_kept false name (Some file) kept is = entry_kept name file kept is

all_kept_of : (f : Bytes → Option Kept) → ((name : Bytes) (kept : Kept) → f name ≡ Some kept → IsAsKept kept) → (names : List Bytes) → All IsAsKept (filter_map f names)
all_kept_of f each [] = All-nil IsAsKept
all_kept_of f each (name ∷ names) = by (f name) refl (all_kept_of f each names)
  where
    by : (o : Option Kept) → f name ≡ o → All IsAsKept (filter_map f names) → All IsAsKept (cons_option o (filter_map f names))
    by None is more = more
    by (Some kept) is more = All-cons IsAsKept kept (filter_map f names) (each name kept is) more

pub opened_kept : OpenedOnesAreAsKept
opened_kept files log = all_kept_of (λ name. entry_unless (failed_on log name) (entry_of name (file_of name files))) (λ name kept is. unless_kept (failed_on log name) name (file_of name files) kept is) (names_in files)

-- ---- the calls

with_kept : (rows : List Kept) (entry : Row) (extent : ℕ) → All IsAsKept rows → AreKept entry.fields entry.times → All IsAsKept (rows ++ record { entry = entry; extent = extent } ∷ [])
with_kept rows entry extent all so = All-append IsAsKept rows _ all (All-cons IsAsKept (record { entry = entry; extent = extent }) [] so (All-nil IsAsKept))

pub drafts_kept : DraftsStayAsKept
drafts_kept shelf entry extent (Ok done) all so = with_kept shelf.rows entry extent all so
drafts_kept shelf entry extent (Err Closed) all so = all
drafts_kept shelf entry extent (Err Full) all so = all
drafts_kept shelf entry extent (Err TooLong) all so = all
drafts_kept shelf entry extent (Err NoDraft) all so = all
drafts_kept shelf entry extent (Err DiskFault) all so = all
drafts_kept shelf entry extent (Err OutOfMemory) all so = all

longer_kept : (key : Bytes) (extent : ℕ) (rows : List Kept) → All IsAsKept rows → All IsAsKept (map (λ row. cond (is_of key row) (extended_to extent row) row) rows)
longer_kept key extent [] all = All-nil IsAsKept
longer_kept key extent (row ∷ rows) all =
    All-cons IsAsKept (cond (is_of key row) (extended_to extent row) row) (map (λ r. cond (is_of key r) (extended_to extent r) r) rows)
    (by (is_of key row) (All-head IsAsKept row rows all)) (longer_kept key extent rows (All-tail IsAsKept row rows all))
  where
    by : (b : Bool) → IsAsKept row → IsAsKept (cond b (extended_to extent row) row)
    by true so = so
    by false so = so

fewer_kept : (key : Bytes) (shelf : KeptMap) → All IsAsKept shelf.rows → All IsAsKept (filter (is_other key) shelf.rows)
fewer_kept key shelf all = All-filter (is_other key) IsAsKept shelf.rows all

pub seals_kept : SealsStayAsKept
seals_kept shelf key (Ok extent) all = longer_kept key extent shelf.rows all
seals_kept shelf key (Err fault) all = fewer_kept key shelf all

pub takings_kept : TakingsStayAsKept
takings_kept shelf key (Ok done) all = fewer_kept key shelf all
takings_kept shelf key (Err fault) all = fewer_kept key shelf all

pub loads_kept : LoadsStayAsKept
loads_kept shelf key (Ok count) all = all
loads_kept shelf key (Err fault) all = fewer_kept key shelf all
