-- The entries of a folder are the law's, one by one.
use Rattle.std.proofs.Common.{◌≡◌, refl, sym, subst, ap, ◌∙◌, inl, inr, ℕ, ◌*◌, ◌≤◌, Bool, true, false, not, ◌&&◌, ◌||◌, cond, filter, List, [], ◌∷◌, length, map, take, Option, Some, None, arith}
use Rattle.std.proofs.lemmas.List.{take_all}
use Rattle.std.specs.List.{cons_option, filter_map, list_any}
use Rattle.std.specs.Option.{option_and_then}
use Rattle.std.specs.Prelude.{bytes_eq, count_by, if◌then◌else◌, min, option_map}
use Rattle.pp_cache_law.specs.Outdated.{AreNamed}
use Rattle.pp_entry.specs.Entries.{Row, row_at}
use Rattle.pp_entry.specs.Gates.{has_extent}
use Rattle.pp_gate.specs.Files.{extent_in, open_gates}
use Rattle.pp_law.specs.Entries.{entries_in, entry_in as law_entry, entry_with}
use Rattle.pp_law.specs.Lists.{Bytes, without}
use Rattle.pp_law.specs.State.{State, Entry}
use Rattle.pp_law.specs.Store.{is_named}
use Rattle.pp_laws.specs.Runs.{IsIn}
use Rattle.pp_laws_crash.proofs.Waking.{in_image}
use Rattle.pp_objects.specs.Kept.{kept_of}
use Rattle.pp_recover.proofs.NameLemmas.{Distinct, NotIn, distinct}
use Rattle.pp_recover.specs.Image.{entry_in, entry_of, extent_if, head_in, kept_with, named_for}
use Rattle.pp_recover.specs.Opening.{entry_unless, failed_on, store_in}
use Rattle.pp_store.proofs.Lists.{count-cons, one}
use Rattle.pp_store.specs.Kept.{IsExtent, Kept}
use Rattle.pp_target.specs.Name.{name_of}
use Rattle.pp_world.specs.Disk.{is_name, names_in}
use Rattle.pp_world.specs.Files.{Files, file_of}
use Rattle.pp_world.specs.Log.{Log}
use Rattle.pp_shelf_law.specs.Opening.{IsOpened, OpenedOnesAreTheLaws}
use Rattle.pp_shelf_law.specs.Shelf.{AreKept, ShowEntries, ShowsEntry, is_shut}
use Rattle.pp_shelf_law.proofs.Lists.{Agree, agree_without, true_false}
use Rattle.pp_shelf_law.proofs.Names.{name_formed}
use Rattle.pp_shelf_law.proofs.Shelves.{named_filter, once_filter, same_bytes}

-- ---- one file

-- it is no entry, or the same in both, under its own name
pub data PairOf (name : Bytes) (k : Option Kept) (o : Option Entry) : Type 0 where
  neither : k ≡ None → o ≡ None → PairOf name k o
  both : (kept : Kept) (e : Entry) → k ≡ Some kept → o ≡ Some e → ShowsEntry kept e → e.name ≡ name → e.name ≡ name_of e.key → PairOf name k o

extent_whole : (n gates : ℕ) → IsExtent n (min n (4096 * gates))
extent_whole n gates = omega arith

module _ (name file : Bytes) where
  abbrev extent_of_row : Row → ℕ
  extent_of_row row = min row.version.length (4096 * open_gates row.version.length file)

  abbrev as_kept : Row → Kept
  as_kept row = record { entry = row; extent = extent_of_row row }

  abbrev as_entry : Row → Entry
  as_entry row = record { name = name; key = row.key; version = row.version; fields = kept_of row.fields row.times; times = row.times; extent = extent_of_row row; is_stale = false }

  pair_at : (row : Row) (k : Row → Option Kept) (own fits : Bool) → k row ≡ (if fits then Some (as_kept row) else None) → bytes_eq (name_of row.key) name ≡ own
      → PairOf name (option_and_then k (if own then Some row else None)) (elim (own && fits) as (λ c. Option Entry) [ true ↦ Some (as_entry row) | false ↦ None ])
  pair_at row k true true is own = both (as_kept row) (as_entry row) is refl
      (record { name = same_bytes (name_of row.key) name own; key = refl; version = refl; fields = refl; times = refl; extent = refl; whole = extent_whole row.version.length (open_gates row.version.length file) })
      refl (sym (same_bytes (name_of row.key) name own))
  pair_at row k true false is own = neither is refl
  pair_at row k false fits is own = neither refl refl

  map_if : (f : ℕ → Kept) (n : ℕ) (b : Bool) → option_map f (if b then Some n else None) ≡ (if b then Some (f n) else None)
  map_if f n true = refl
  map_if f n false = refl

  pair_row : (row : Row) → PairOf name (option_and_then (kept_with file) (named_for name row)) (entry_with name file row)
  unfolding extent_if extent_in open_gates
  pair_row row =
      pair_at row (kept_with file) (bytes_eq (name_of row.key) name) (has_extent row.version.length (extent_of_row row) (length file))
      (map_if (λ n. record { entry = row; extent = n }) (extent_of_row row) (has_extent row.version.length (extent_of_row row) (length file))) refl

  pair_by : (o : Option Row) → PairOf name (option_and_then (kept_with file) (option_and_then (named_for name) o)) (option_and_then (entry_with name file) o)
  pair_by None = neither refl refl
  pair_by (Some row) = pair_row row

  pub pair_of : PairOf name (entry_in name file) (law_entry name file)
  unfolding entry_in head_in
  pair_of = pair_by (row_at (take 8192 file))

-- ---- all of them

law_of : Bytes × Bytes → Option Entry
law_of p = law_entry p.0 p.1

named_as : (p : Bytes × Bytes) (e : Entry) → PairOf p.0 (entry_in p.0 p.1) (law_entry p.0 p.1) → law_entry p.0 p.1 ≡ Some e → (e.name ≡ p.0) × (e.name ≡ name_of e.key)
named_as p e (neither k o) is = absurd (let h : None ≡ Some e = sym o ∙ is in cc)
named_as p e (both kept d k o shows name own) is =
    let h : Some d ≡ Some e = sym o ∙ is in
    let same : d ≡ e = cc h in
    subst (λ (x : Entry). (x.name ≡ p.0) × (x.name ≡ name_of x.key)) same (name, own)

pub all_named : (rest : Files) → AreNamed (entries_in rest)
all_named [] = tt
all_named (p ∷ rest) = by (law_entry p.0 p.1) (named_as p) (all_named rest)
  where
    by : (o : Option Entry) → ((e : Entry) → PairOf p.0 (entry_in p.0 p.1) (law_entry p.0 p.1) → o ≡ Some e → (e.name ≡ p.0) × (e.name ≡ name_of e.key)) → AreNamed (entries_in rest) → AreNamed (cons_option o (entries_in rest))
    by None names named = named
    by (Some e) names named = ((names e (pair_of p.0 p.1) refl).1, named)

none_so : (name : Bytes) (rest : Files) → NotIn name (map (λ p. p.0) rest) → count_by (is_named name) (entries_in rest) ≡ 0
none_so name [] none = refl
none_so name (p ∷ rest) none = by (law_entry p.0 p.1) (named_as p) (none_so name rest none.1)
  where
    by : (o : Option Entry) → ((e : Entry) → PairOf p.0 (entry_in p.0 p.1) (law_entry p.0 p.1) → o ≡ Some e → (e.name ≡ p.0) × (e.name ≡ name_of e.key)) → count_by (is_named name) (entries_in rest) ≡ 0
        → count_by (is_named name) (cons_option o (entries_in rest)) ≡ 0
    by None names zero_so = zero_so
    by (Some e) names zero_so = at (is_named name e) refl
      where
        at : (b : Bool) → is_named name e ≡ b → count_by (is_named name) (e ∷ entries_in rest) ≡ 0
        at true is = absurd (none.0 (sym (names e (pair_of p.0 p.1) refl).0 ∙ same_bytes e.name name is))
        at false is = omega (arith, zero_so, count-cons (is_named name) e (entries_in rest), ap one is)

pub once_each : (rest : Files) → Distinct (map (λ p. p.0) rest) → (name : Bytes) → count_by (is_named name) (entries_in rest) ≤ 1
once_each [] differ name = omega arith
once_each (p ∷ rest) differ name = by (law_entry p.0 p.1) (named_as p) (once_each rest differ.1 name)
  where
    by : (o : Option Entry) → ((e : Entry) → PairOf p.0 (entry_in p.0 p.1) (law_entry p.0 p.1) → o ≡ Some e → (e.name ≡ p.0) × (e.name ≡ name_of e.key)) → count_by (is_named name) (entries_in rest) ≤ 1
        → count_by (is_named name) (cons_option o (entries_in rest)) ≤ 1
    by None names few = few
    by (Some e) names few = at (is_named name e) refl
      where
        at : (b : Bool) → is_named name e ≡ b → count_by (is_named name) (e ∷ entries_in rest) ≤ 1
        at true is =
            let same : p.0 ≡ name = sym (names e (pair_of p.0 p.1) refl).0 ∙ same_bytes e.name name is in
            omega (arith, count-cons (is_named name) e (entries_in rest), ap one is, none_so name rest (subst (λ (n : Bytes). NotIn n (map (λ q. q.0) rest)) same differ.0))
        at false is = omega (arith, few, count-cons (is_named name) e (entries_in rest), ap one is)

-- ---- and the store has the same

module _ (files : Files) (log : Log) where
  abbrev pub failed : Entry → Bool
  failed e = failed_on log e.name

  abbrev stored : Bytes → Option Kept
  stored name = entry_unless (failed_on log name) (entry_of name (file_of name files))

  nothing_stored : (b : Bool) (k : Option Kept) → k ≡ None → entry_unless b k ≡ None
  nothing_stored true k none = refl
  nothing_stored false k none = none

  pairs_show : (p : Bytes × Bytes) (b : Bool) (k : Option Kept) (o : Option Entry) (rows : List Kept) (es : List Entry) → failed_on log p.0 ≡ b → PairOf p.0 k o → ShowEntries rows (without failed es)
      → ShowEntries (cons_option (entry_unless b k) rows) (without failed (cons_option o es))
  pairs_show p b k o rows es is (neither none_k none_o) rest =
      subst (λ (u : Option Kept). ShowEntries (cons_option u rows) (without failed (cons_option o es))) (sym (nothing_stored b k none_k))
      (subst (λ (u : Option Entry). ShowEntries rows (without failed (cons_option u es))) (sym none_o) rest)
  pairs_show p true k o rows es is (both kept e is_k is_o shows name own) rest =
      subst (λ (u : Option Entry). ShowEntries rows (without failed (cons_option u es))) (sym is_o)
      (subst (λ (b : Bool). ShowEntries rows (cond (not b) (e ∷ without failed es) (without failed es))) (sym (ap (failed_on log) name ∙ is)) rest)
  pairs_show p false k o rows es is (both kept e is_k is_o shows name own) rest =
      subst (λ (u : Option Kept). ShowEntries (cons_option u rows) (without failed (cons_option o es))) (sym is_k)
      (subst (λ (u : Option Entry). ShowEntries (kept ∷ rows) (without failed (cons_option u es))) (sym is_o)
      (subst (λ (b : Bool). ShowEntries (kept ∷ rows) (cond (not b) (e ∷ without failed es) (without failed es))) (sym (ap (failed_on log) name ∙ is)) (shows, rest)))

  -- what is not named so is no entry
  unnamed_none : (p : Bytes × Bytes) (o : Option Entry) → is_name p.0 ≡ false → PairOf p.0 (entry_in p.0 p.1) o → o ≡ None
  unnamed_none p o form (neither none_k none_o) = none_o
  unnamed_none p o form (both kept e is_k is_o shows name own) = true_false (sym (name_formed e.key) ∙ ap is_name (sym own ∙ name) ∙ form)

  stored_is : (p : Bytes × Bytes) → file_of p.0 files ≡ Some p.1 → stored p.0 ≡ entry_unless (failed_on log p.0) (entry_in p.0 p.1)
  stored_is p there = ap (λ (o : Option Bytes). entry_unless (failed_on log p.0) (entry_of p.0 o)) there

  all_show : (rest : Files) → ((p : Bytes × Bytes) → IsIn p rest → file_of p.0 files ≡ Some p.1) → ShowEntries (filter_map stored (filter is_name (map (λ p. p.0) rest))) (without failed (entries_in rest))
  all_show [] found = tt
  all_show (p ∷ rest) found = by (is_name p.0) refl (all_show rest (λ q i. found q (inr i)))
    where
      by : (b : Bool) → is_name p.0 ≡ b → ShowEntries (filter_map stored (filter is_name (map (λ q. q.0) rest))) (without failed (entries_in rest))
          → ShowEntries (filter_map stored (cond b (p.0 ∷ filter is_name (map (λ q. q.0) rest)) (filter is_name (map (λ q. q.0) rest)))) (without failed (cons_option (law_entry p.0 p.1) (entries_in rest)))
      by true form shows =
          subst (λ (u : Option Kept). ShowEntries (cons_option u (filter_map stored (filter is_name (map (λ q. q.0) rest)))) (without failed (cons_option (law_entry p.0 p.1) (entries_in rest)))) (sym (stored_is p (found p (inl refl))))
          (pairs_show p (failed_on log p.0) (entry_in p.0 p.1) (law_entry p.0 p.1) (filter_map stored (filter is_name (map (λ q. q.0) rest))) (entries_in rest) refl (pair_of p.0 p.1) shows)
      by false form shows =
          subst (λ (u : Option Entry). ShowEntries (filter_map stored (filter is_name (map (λ q. q.0) rest))) (without failed (cons_option u (entries_in rest)))) (sym (unnamed_none p (law_entry p.0 p.1) form (pair_of p.0 p.1))) shows

-- ---- the shelf

-- what is left is under no closed name
none_shut : (files : Files) (log : Log) (s : State) → IsOpened files log s → (es : List Entry) → Agree (is_shut s.closed_names) (λ e. false) (without (failed files log) es)
none_shut files log s is [] = tt
none_shut files log s is (e ∷ es) = by (failed_on log e.name) refl (none_shut files log s is es)
  where
    not_among : (names : List Bytes) → failed_on log e.name ≡ false → list_any (λ other. bytes_eq other e.name) (filter (failed_on log) names) ≡ false
    not_among [] sound = refl
    not_among (n ∷ names) sound = at (failed_on log n) refl (not_among names sound)
      where
        other : (b : Bool) → failed_on log n ≡ true → bytes_eq n e.name ≡ b → b ≡ false
        other true failed_n is_n = true_false (sym failed_n ∙ ap (failed_on log) (same_bytes n e.name is_n) ∙ sound)
        other false failed_n is_n = refl

        at : (b : Bool) → failed_on log n ≡ b → list_any (λ m. bytes_eq m e.name) (filter (failed_on log) names) ≡ false → list_any (λ m. bytes_eq m e.name) (cond b (n ∷ filter (failed_on log) names) (filter (failed_on log) names)) ≡ false
        at true failed_n rest = ap (λ (c : Bool). c || list_any (λ m. bytes_eq m e.name) (filter (failed_on log) names)) (other (bytes_eq n e.name) failed_n refl) ∙ rest
        at false failed_n rest = rest

    by : (b : Bool) → failed_on log e.name ≡ b → Agree (is_shut s.closed_names) (λ d. false) (without (failed files log) es) → Agree (is_shut s.closed_names) (λ d. false) (cond (not b) (e ∷ without (failed files log) es) (without (failed files log) es))
    by true bad rest = rest
    by false sound rest = (is.closed e.name ∙ not_among (names_in files) sound, rest)

without_nobody : {A : Type 0} (xs : List A) → without (λ x. false) xs ≡ xs
without_nobody [] = refl
without_nobody {A} (x ∷ xs) = ap (λ (ys : List A). x ∷ ys) (without_nobody xs)

pub opened_ones : OpenedOnesAreTheLaws
opened_ones files log s rising few is = subst (λ (es : List Entry). AreKept (store_in files log) es s.closed_names) (sym is.entries) (record {
  rows = subst (λ (es : List Entry). ShowEntries (filter_map (stored files log) (names_in files)) es)
      (sym (agree_without (is_shut s.closed_names) (λ e. false) (without (failed files log) (entries_in files)) (none_shut files log s is (entries_in files)) ∙ without_nobody (without (failed files log) (entries_in files))))
      (subst (λ (names : List Bytes). ShowEntries (filter_map (stored files log) names) (without (failed files log) (entries_in files))) (sym (take_all 65536 (filter is_name (map (λ p. p.0) files)) few))
      (all_show files log files (λ p i. in_image files p apart i)));
  closed_same = is.closed;
  count = is.count;
  named = named_filter (λ e. not (failed files log e)) (entries_in files) (all_named files);
  once = once_filter (λ e. not (failed files log e)) (entries_in files) (once_each files apart);
})
  where
    apart : Distinct (map (λ p. p.0) files)
    apart = distinct (map (λ p. p.0) files) rising
