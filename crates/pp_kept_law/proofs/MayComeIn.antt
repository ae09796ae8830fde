-- What is kept of each key, and may come in, is the law's.
use Rattle.std.proofs.Common.{◌≡◌, refl, sym, subst, ap, ◌∙◌, Bool, true, false, not, ◌&&◌, ◌||◌, cond, find, List, [], ◌∷◌, Option, Some, None}
use Rattle.std.specs.Prelude.{bytes_eq, is_some}
use Rattle.std.specs.List.{list_any}
use Rattle.pp_cache_law.proofs.Alike.{rows_of}
use Rattle.pp_cache_law.proofs.Noted.{kept_rows_of}
use Rattle.pp_cache_law.specs.Outdated.{AreNamed}
use Rattle.pp_cache_law.specs.Pairs.{AreBoth}
use Rattle.pp_cache_law.specs.Tables.{ShowsInstance}
use Rattle.pp_due.specs.OnDisk.{kept_alone}
use Rattle.pp_fresh.specs.declared.aging.Times.{Times}
use Rattle.pp_law.specs.Lists.{Bytes, without}
use Rattle.pp_law.specs.State.{Entry, Instance as Known}
use Rattle.pp_law.specs.Table.{is_entry_of, row, row_on_disk}
use Rattle.pp_objects.specs.Instances.{Instance, row_of}
use Rattle.pp_objects.specs.Kept.{kept_of as kept_fields}
use Rattle.pp_shelf_law.proofs.Shelves.{same_bytes}
use Rattle.pp_shelf_law.specs.Shelf.{ShowEntries, ShowsEntry, is_shut}
use Rattle.pp_store.specs.Kept.{Kept, is_of, kept_of}
use Rattle.pp_target.specs.Name.{name_of}
use Rattle.pp_turns_law.specs.Rows.{IsKeptAs}
use Rattle.pp_kept_law.specs.Kept.{KeptAloneMayComeIn, KeptOnesMayComeIn}

-- ---- each entry that stands there

as_shown : (k : Kept) (e : Entry) → ShowsEntry k e → IsKeptAs k e
as_shown k e shows = record {
  version = shows.version;
  fields = sym shows.fields ∙ ap (λ (t : Times). kept_fields k.entry.fields t) shows.times;
  times = shows.times;
  extent = shows.extent;
}

pub none_shut : (closed : List Bytes) (es : List Entry) → list_any (is_shut closed) es ≡ false → without (is_shut closed) es ≡ es
none_shut closed [] none = refl
none_shut closed (e ∷ es) none = by (is_shut closed e) none (none_shut closed es)
  where
    by : (b : Bool) → (b || list_any (is_shut closed) es) ≡ false → (list_any (is_shut closed) es ≡ false → without (is_shut closed) es ≡ es) → cond (not b) (e ∷ without (is_shut closed) es) (without (is_shut closed) es) ≡ e ∷ es
    by true some rest = absurd (cc some)
    by false none rest = ap (λ (ds : List Entry). e ∷ ds) (rest none)

-- ---- of a key, whose name is noted or not

abbrev unless_noted : Bool → Option Kept → Option Kept
unless_noted noted o = elim noted [ true ↦ None | false ↦ o ]

abbrev stands_for : Bytes → List Bytes → Entry → Bool
stands_for key names e = not (list_any (bytes_eq e.name) names) && is_entry_of key e

off_both : (b : Bool) → (not b && false) ≡ false
off_both true = refl
off_both false = refl

paired : (key : Bytes) (names : List Bytes) (noted : Bool) (rows : List Kept) (es : List Entry) → list_any (bytes_eq (name_of key)) names ≡ noted → AreNamed es → ShowEntries rows es
    → AreBoth IsKeptAs (unless_noted noted (find (is_of key) rows)) (find (stands_for key names) es)
paired key names true [] [] is named all = tt
paired key names false [] [] is named all = tt
paired key names noted [] (e ∷ es) is named all = absurd all
paired key names noted (k ∷ rows) [] is named all = absurd all
paired key names noted (k ∷ rows) (e ∷ es) is named all = by (is_entry_of key e) refl (paired key names noted rows es is named.1 all.1)
  where
    -- it is of that key in both
    alike : is_of key k ≡ is_entry_of key e
    alike = ap (λ (t : Bytes). bytes_eq t key) all.0.key

    its : is_entry_of key e ≡ true → (list_any (bytes_eq e.name) names) ≡ noted
    its of = ap (λ (n : Bytes). list_any (bytes_eq n) names) (named.0 ∙ ap name_of (same_bytes e.key key of)) ∙ is

    here : (b : Bool) → list_any (bytes_eq (name_of key)) names ≡ b → AreBoth IsKeptAs (unless_noted b (find (is_of key) rows)) (find (stands_for key names) es)
        → AreBoth IsKeptAs (unless_noted b (Some k)) (cond (not b && true) (Some e) (find (stands_for key names) es))
    here true at rest = rest
    here false at rest = as_shown k e all.0

    by : (b : Bool) → is_entry_of key e ≡ b → AreBoth IsKeptAs (unless_noted noted (find (is_of key) rows)) (find (stands_for key names) es)
        → AreBoth IsKeptAs (unless_noted noted (cond (is_of key k) (Some k) (find (is_of key) rows))) (cond (not (list_any (bytes_eq e.name) names) && is_entry_of key e) (Some e) (find (stands_for key names) es))
    by true of rest =
        subst (λ (c : Bool). AreBoth IsKeptAs (unless_noted noted (cond c (Some k) (find (is_of key) rows))) (cond (not (list_any (bytes_eq e.name) names) && is_entry_of key e) (Some e) (find (stands_for key names) es))) (sym (alike ∙ of))
        (subst (λ (c : Bool). AreBoth IsKeptAs (unless_noted noted (Some k)) (cond (not (list_any (bytes_eq e.name) names) && c) (Some e) (find (stands_for key names) es))) (sym of)
        (subst (λ (c : Bool). AreBoth IsKeptAs (unless_noted noted (Some k)) (cond (not c && true) (Some e) (find (stands_for key names) es))) (sym (its of)) (here noted is rest)))
    by false of rest =
        subst (λ (c : Bool). AreBoth IsKeptAs (unless_noted noted (cond c (Some k) (find (is_of key) rows))) (cond (not (list_any (bytes_eq e.name) names) && is_entry_of key e) (Some e) (find (stands_for key names) es))) (sym (alike ∙ of))
        (subst (λ (c : Bool). AreBoth IsKeptAs (unless_noted noted (find (is_of key) rows)) (cond c (Some e) (find (stands_for key names) es))) (sym (ap (λ (c : Bool). not (list_any (bytes_eq e.name) names) && c) of ∙ off_both (list_any (bytes_eq e.name) names))) rest)

pub may_come_in : KeptOnesMayComeIn
may_come_in shelf m s shows noted unshut key =
    subst (λ (o : Option Entry). AreBoth IsKeptAs (unless_noted (list_any (bytes_eq (name_of key)) m.outdated) (kept_of key shelf)) o) (kept_rows_of m s key noted)
    (paired key m.outdated (list_any (bytes_eq (name_of key)) m.outdated) shelf.rows s.entries refl shows.named
    (subst (λ (es : List Entry). ShowEntries shelf.rows es) (none_shut s.closed_names s.entries unshut) shows.rows))

-- ---- no row of that key is in memory

abbrev kept_by : Bool → Bool → Option Kept → Option Kept
kept_by row noted kept = elim (row || noted) [ true ↦ None | false ↦ kept ]

pub alone_comes_in : KeptAloneMayComeIn
alone_comes_in number m s table shelf kept key lost = by (row_of key m.instances) refl (subst (λ (o : Option Known). AreBoth (ShowsInstance number m s) (row_of key m.instances) o) lost (rows_of number m s table key))
  where
    by : (o : Option Instance) → row_of key m.instances ≡ o → AreBoth (ShowsInstance number m s) o None → AreBoth IsKeptAs (kept_alone key shelf m) (row_on_disk s key)
    by (Some i) is both = absurd both
    by None is both =
        subst (λ (o : Option Kept). AreBoth IsKeptAs o (row_on_disk s key))
        (sym (ap (λ (o : Option Instance). kept_by (is_some o) (list_any (bytes_eq (name_of key)) m.outdated) (kept_of key shelf)) is))
        (kept key)
