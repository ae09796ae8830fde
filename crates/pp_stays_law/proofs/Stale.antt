-- What is kept is the law's, whichever of its entries are stale: a row that is cleared makes one stale, and changes no other thing of any.
use Rattle.std.proofs.Common.{◌≡◌, ◌≤◌, refl, sym, subst, ap, ◌∙◌, ℕ, Bool, true, false, ◌||◌, not, cond, List, [], ◌∷◌, map}
use Rattle.std.specs.List.{list_any}
use Rattle.std.specs.Prelude.{count_by}
use Rattle.pp_cache_law.proofs.PairLemmas.{count_mapped_same}
use Rattle.pp_cache_law.specs.Outdated.{AreNamed}
use Rattle.pp_law.specs.Closing.{left_alone}
use Rattle.pp_law.specs.Connections.{attempts_of, charge, give_up_row, is_unfilled, lose_attempt, lost_one, on_client_of, on_exchange, without_row}
use Rattle.pp_law.specs.Lists.{Bytes, change, has_text, without}
use Rattle.pp_law.specs.State.{State, Client, Course, Entry, Exchange}
use Rattle.pp_law.specs.Store.{is_named}
use Rattle.pp_law.specs.Table.{clear, is_entry_of, swept}
use Rattle.pp_shelf_law.specs.Shelf.{AreKept, ShowEntries, is_shut}
use Rattle.pp_store.specs.Kept.{Kept, KeptMap}
use Rattle.pp_target.specs.Key.{text_of}

abbrev pub but_for_stale : Entry → Entry
but_for_stale e = record e { is_stale = false }

abbrev pub fresh : List Entry → List Entry
fresh es = map but_for_stale es

-- ---- those whose name is not closed

open_fresh : (closed : List Bytes) (es : List Entry) → without (is_shut closed) (fresh es) ≡ fresh (without (is_shut closed) es)
open_fresh closed [] = refl
open_fresh closed (e ∷ es) = by (not (is_shut closed e)) (open_fresh closed es)
  where
    by : (b : Bool) → without (is_shut closed) (fresh es) ≡ fresh (without (is_shut closed) es)
        → cond b (but_for_stale e ∷ without (is_shut closed) (fresh es)) (without (is_shut closed) (fresh es)) ≡ fresh (cond b (e ∷ without (is_shut closed) es) (without (is_shut closed) es))
    by true rest = ap (λ (xs : List Entry). but_for_stale e ∷ xs) rest
    by false rest = rest

any_closed : (closed : List Bytes) (es : List Entry) → list_any (λ e. has_text e.name closed) (fresh es) ≡ list_any (λ e. has_text e.name closed) es
any_closed closed [] = refl
any_closed closed (e ∷ es) = ap (λ (b : Bool). has_text e.name closed || b) (any_closed closed es)

-- ---- each row shows its entry

shown_fresh : (rows : List Kept) (es : List Entry) → ShowEntries rows es → ShowEntries rows (fresh es)
shown_fresh [] [] all = tt
shown_fresh [] (e ∷ es) all = absurd all
shown_fresh (r ∷ rows) [] all = absurd all
shown_fresh (r ∷ rows) (e ∷ es) all =
    (record { name = all.0.name; key = all.0.key; version = all.0.version; fields = all.0.fields; times = all.0.times; extent = all.0.extent; whole = all.0.whole }, shown_fresh rows es all.1)

shown_stale : (rows : List Kept) (es : List Entry) → ShowEntries rows (fresh es) → ShowEntries rows es
shown_stale [] [] all = tt
shown_stale [] (e ∷ es) all = absurd all
shown_stale (r ∷ rows) [] all = absurd all
shown_stale (r ∷ rows) (e ∷ es) all =
    (record { name = all.0.name; key = all.0.key; version = all.0.version; fields = all.0.fields; times = all.0.times; extent = all.0.extent; whole = all.0.whole }, shown_stale rows es all.1)

named_fresh : (es : List Entry) → AreNamed es → AreNamed (fresh es)
named_fresh [] all = tt
named_fresh (e ∷ es) all = (all.0, named_fresh es all.1)

named_stale : (es : List Entry) → AreNamed (fresh es) → AreNamed es
named_stale [] all = tt
named_stale (e ∷ es) all = (all.0, named_stale es all.1)

count_fresh : (name : Bytes) (es : List Entry) → count_by (is_named name) (fresh es) ≡ count_by (is_named name) es
count_fresh name es = count_mapped_same (is_named name) but_for_stale es (λ e. refl)

-- ---- all of it

kept_fresh : (shelf : KeptMap) (es : List Entry) (closed : List Bytes) → AreKept shelf es closed → AreKept shelf (fresh es) closed
kept_fresh shelf es closed kept = record {
  rows = subst (λ (xs : List Entry). ShowEntries shelf.rows xs) (sym (open_fresh closed es)) (shown_fresh shelf.rows (without (is_shut closed) es) kept.rows);
  closed_same = kept.closed_same;
  count = kept.count;
  named = named_fresh es kept.named;
  once = λ name. subst (λ (n : ℕ). n ≤ 1) (sym (count_fresh name es)) (kept.once name);
}

kept_stale : (shelf : KeptMap) (es : List Entry) (closed : List Bytes) → AreKept shelf (fresh es) closed → AreKept shelf es closed
kept_stale shelf es closed kept = record {
  rows = shown_stale shelf.rows (without (is_shut closed) es) (subst (λ (xs : List Entry). ShowEntries shelf.rows xs) (open_fresh closed es) kept.rows);
  closed_same = kept.closed_same;
  count = kept.count;
  named = named_stale es kept.named;
  once = λ name. subst (λ (n : ℕ). n ≤ 1) (count_fresh name es) (kept.once name);
}

pub kept_as_before : (shelf : KeptMap) (old new : List Entry) (closed : List Bytes) → fresh new ≡ fresh old → AreKept shelf old closed → AreKept shelf new closed
kept_as_before shelf old new closed same kept = kept_stale shelf new closed (subst (λ (es : List Entry). AreKept shelf es closed) (sym same) (kept_fresh shelf old closed kept))

pub open_as_before : (old new : List Entry) (closed : List Bytes) → fresh new ≡ fresh old → list_any (λ e. has_text e.name closed) old ≡ false → list_any (λ e. has_text e.name closed) new ≡ false
open_as_before old new closed same unshut = sym (any_closed closed new) ∙ ap (λ (es : List Entry). list_any (λ e. has_text e.name closed) es) same ∙ any_closed closed old ∙ unshut

-- ---- an attempt is lost

staled_same : (p : Entry → Bool) (es : List Entry) → fresh (change p (λ e. record e { is_stale = true }) es) ≡ fresh es
staled_same p [] = refl
staled_same p (e ∷ es) = by (p e) (staled_same p es)
  where
    by : (b : Bool) → fresh (change p (λ d. record d { is_stale = true }) es) ≡ fresh es
        → but_for_stale (elim b as (λ c. Entry) [ true ↦ record e { is_stale = true } | false ↦ e ]) ∷ fresh (change p (λ d. record d { is_stale = true }) es) ≡ but_for_stale e ∷ fresh es
    by true rest = ap (λ (xs : List Entry). but_for_stale e ∷ xs) rest
    by false rest = ap (λ (xs : List Entry). but_for_stale e ∷ xs) rest

-- the same entries but for staleness, and the same names are closed
pub record IsAlike (s t : State) : Type 0 where
  pub entries : fresh t.entries ≡ fresh s.entries
  pub closed : t.closed_names ≡ s.closed_names

cleared_alike : (key : Bytes) (s : State) → IsAlike s (clear key s)
unfolding clear swept
cleared_alike key s = record { entries = staled_same (is_entry_of key) s.entries; closed = refl }

given_up_alike : (e : Exchange) (s : State) → IsAlike s (give_up_row e s)
unfolding give_up_row on_client_of on_exchange
given_up_alike e s = by (is_unfilled s e) (cleared_alike (text_of e.key) s)
  where
    by : (b : Bool) → IsAlike s (clear (text_of e.key) s) → IsAlike s (elim b as (λ t. State) [ false ↦ s | true ↦ on_exchange e.number left_alone (on_client_of e without_row (clear (text_of e.key) s)) ])
    by true one = record { entries = one.entries; closed = one.closed }
    by false one = record { entries = refl; closed = refl }

charged_alike : (cost : Course → Course) (e : Exchange) (s : State) → IsAlike s (charge cost e s)
unfolding charge on_client_of
charged_alike cost e s = let one : IsAlike (on_client_of e (λ (d : Client). record d { course = cost d.course }) s) (give_up_row e (on_client_of e (λ (d : Client). record d { course = cost d.course }) s)) = given_up_alike e (on_client_of e (λ (d : Client). record d { course = cost d.course }) s) in record { entries = one.entries; closed = one.closed }

pub lost_alike : (e : Exchange) (s : State) → IsAlike s (lose_attempt e s)
unfolding lose_attempt
lost_alike e s = charged_alike (lost_one (attempts_of e)) e s
