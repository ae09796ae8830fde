-- Which entries stand no more is noted, where what may come in is the law's.
use Rattle.std.proofs.Common.{◌≡◌, refl, sym, ap, ◌∙◌, subst, Bool, true, false, not, ◌&&◌, ◌||◌, cond, bytes_eq, find, List, [], ◌∷◌, Option, Some, None, inl, inr}
use Rattle.std.specs.List.{list_any}
use Rattle.std.specs.Prelude.{is_some}
use Rattle.pp_cache.specs.Memory.{Memory}
use Rattle.pp_cache_law.specs.Outdated.{AreNamed, AreNoted}
use Rattle.pp_cache_law.specs.Pairs.{AreBoth}
use Rattle.pp_kept_law.proofs.MayComeIn.{none_shut}
use Rattle.pp_kept_law.specs.Kept.{KeptOnesAreNoted}
use Rattle.pp_law.specs.Lists.{Bytes, has_text}
use Rattle.pp_law.specs.State.{State, Entry}
use Rattle.pp_law.specs.Store.{is_closed}
use Rattle.pp_law.specs.Table.{is_entry_of, is_kept_row_of, kept_row, row_on_disk}
use Rattle.pp_laws.proofs.Lists.{in_find}
use Rattle.pp_laws.specs.Runs.{IsIn}
use Rattle.pp_shelf_law.proofs.Finding.{one_named}
use Rattle.pp_shelf_law.proofs.Shelves.{bytes_same, same_bytes}
use Rattle.pp_shelf_law.specs.Shelf.{ShowEntries, ShowsShelf}
use Rattle.pp_store.specs.Kept.{Kept, KeptMap, is_of, kept_of}
use Rattle.pp_target.specs.Name.{name_of}
use Rattle.pp_turns_law.specs.Rows.{AllAreKept, IsKeptAs}

some_same : {A : Type 0} (x y : A) → Some x ≡ Some y → x ≡ y
some_same x y is = cc is

-- ---- each entry is kept, and has the name of its key

named_so : (e : Entry) (es : List Entry) → AreNamed es → IsIn e es → e.name ≡ name_of e.key
named_so e [] named i = absurd i
named_so e (d ∷ es) named (inl is) = ap (λ (x : Entry). x.name) is ∙ named.0 ∙ ap (λ (x : Entry). name_of x.key) (sym is)
named_so e (d ∷ es) named (inr i) = named_so e es named.1 i

kept_so : (e : Entry) (rows : List Kept) (es : List Entry) → ShowEntries rows es → IsIn e es → is_some (find (is_of e.key) rows) ≡ true
kept_so e [] [] shows i = absurd i
kept_so e [] (d ∷ es) shows i = absurd shows
kept_so e (k ∷ rows) [] shows i = absurd shows
kept_so e (k ∷ rows) (d ∷ es) shows i = by (is_of e.key k) refl i (kept_so e rows es shows.1)
  where
    by : (b : Bool) → is_of e.key k ≡ b → IsIn e (d ∷ es) → (IsIn e es → is_some (find (is_of e.key) rows) ≡ true) → is_some (cond b (Some k) (find (is_of e.key) rows)) ≡ true
    by true of j rest = refl
    by false of (inr j) rest = rest j
    by false of (inl is) rest =
        let same : k.entry.key ≡ e.key = shows.0.key ∙ ap (λ (x : Entry). x.key) (sym is) in
        let both : true ≡ false = sym (ap (λ (t : Bytes). bytes_eq t e.key) same ∙ bytes_same e.key) ∙ of in
        absurd (cc both)

-- ---- one that stands comes in

comes_in : (key : Bytes) (s : State) (e : Entry) (es : List Entry) → IsIn e es → is_kept_row_of key e ≡ true → is_some (find (is_kept_row_of key) es) ≡ true
comes_in key s e [] i of = absurd i
comes_in key s e (d ∷ es) i of = by (is_kept_row_of key d) refl i (λ j. comes_in key s e es j of)
  where
    by : (b : Bool) → is_kept_row_of key d ≡ b → IsIn e (d ∷ es) → (IsIn e es → is_some (find (is_kept_row_of key) es) ≡ true) → is_some (cond b (Some d) (find (is_kept_row_of key) es)) ≡ true
    by true is j rest = refl
    by false is (inl same) rest = absurd (let both : true ≡ false = sym (ap (λ (x : Entry). is_kept_row_of key x) (sym same) ∙ of) ∙ is in cc)
    by false is (inr j) rest = rest j

abbrev row_by : (displaced : Bool) (s : State) (key : Bytes) → Option Entry
row_by displaced s key = elim displaced [ true ↦ None | false ↦ kept_row s key ]

none_some : (o : Option Entry) → o ≡ None → is_some o ≡ true → ⊥
none_some o is some = absurd (let both : false ≡ true = sym (ap (λ (x : Option Entry). is_some x) is) ∙ some in cc)

module _ (shelf : KeptMap) (m : Memory) (s : State) (shows : ShowsShelf shelf s) (unshut : list_any (λ e. is_closed s e.name) s.entries ≡ false) (kept : AllAreKept shelf m s) where
  rows : ShowEntries shelf.rows s.entries
  rows = subst (λ (es : List Entry). ShowEntries shelf.rows es) (none_shut s.closed_names s.entries unshut) shows.rows

  -- ---- of one

  abbrev gone : Entry → Bool
  gone e = e.is_stale || has_text e.key s.displaced

  abbrev noted : Entry → Bool
  noted e = list_any (bytes_eq e.name) m.outdated

  -- where nothing comes in, it stands no more
  stands_no_more : (e : Entry) → IsIn e s.entries → row_on_disk s e.key ≡ None → gone e ≡ true
  stands_no_more e there none = by e.is_stale (has_text e.key s.displaced) refl none
    where
      by : (a b : Bool) → e.is_stale ≡ a → row_by b s e.key ≡ None → (a || b) ≡ true
      by true b is out = refl
      by false true is out = refl
      by false false is out =
          absurd (none_some (kept_row s e.key) out (comes_in e.key s e s.entries there (ap (λ (c : Bool). not c && bytes_eq e.key e.key) is ∙ bytes_same e.key)))

  -- where something comes in, it does, and stands
  stands_still : (e d : Entry) → IsIn e s.entries → row_on_disk s e.key ≡ Some d → gone e ≡ false
  stands_still e d there some = by (has_text e.key s.displaced) refl some
    where
      unstale : kept_row s e.key ≡ Some d → e.is_stale ≡ false
      unstale found =
          let its = in_find (is_kept_row_of e.key) d s.entries found in
          let of : is_entry_of e.key d ≡ true = second (not d.is_stale) (is_entry_of e.key d) its.1 in
          let name : d.name ≡ e.name = named_so d s.entries shows.named its.0 ∙ ap name_of (same_bytes d.key e.key of) ∙ sym (named_so e s.entries shows.named there) in
          let same : e ≡ d = one_named e.name e d s.entries (shows.once e.name) there refl its.0 name in
          ap (λ (x : Entry). x.is_stale) same ∙ isnt d.is_stale (first (not d.is_stale) (is_entry_of e.key d) its.1)
        where
          first : (a b : Bool) → (a && b) ≡ true → a ≡ true
          first true b is = refl
          first false b is = absurd (cc is)

          second : (a b : Bool) → (a && b) ≡ true → b ≡ true
          second true b is = is
          second false b is = absurd (cc is)

          isnt : (b : Bool) → not b ≡ true → b ≡ false
          isnt true is = absurd (cc is)
          isnt false is = refl

      by : (b : Bool) → has_text e.key s.displaced ≡ b → row_by b s e.key ≡ Some d → (e.is_stale || has_text e.key s.displaced) ≡ false
      by true is found = absurd (cc found)
      by false is found = ap (λ (a : Bool). a || has_text e.key s.displaced) (unstale found) ∙ is

  noted_so : (e : Entry) → IsIn e s.entries → gone e ≡ noted e
  noted_so e there = by (noted e) refl (kept e.key)
    where
      its : noted e ≡ list_any (bytes_eq (name_of e.key)) m.outdated
      its = ap (λ (n : Bytes). list_any (bytes_eq n) m.outdated) (named_so e s.entries shows.named there)

      none : (o : Option Entry) → row_on_disk s e.key ≡ o → AreBoth IsKeptAs None o → gone e ≡ true
      none None is both = stands_no_more e there is
      none (Some d) is both = absurd both

      some : (k : Option Kept) (o : Option Entry) → kept_of e.key shelf ≡ k → row_on_disk s e.key ≡ o → AreBoth IsKeptAs k o → gone e ≡ false
      some None o at is both = absurd (let neither : false ≡ true = sym (ap (λ (x : Option Kept). is_some x) at) ∙ kept_so e shelf.rows s.entries rows there in cc)
      some (Some k) None at is both = absurd both
      some (Some k) (Some d) at is both = stands_still e d there is

      by : (b : Bool) → noted e ≡ b → AreBoth IsKeptAs (elim (list_any (bytes_eq (name_of e.key)) m.outdated) [ true ↦ None | false ↦ kept_of e.key shelf ]) (row_on_disk s e.key) → gone e ≡ b
      by true is both = none (row_on_disk s e.key) refl (subst (λ (c : Bool). AreBoth IsKeptAs (elim c [ true ↦ None | false ↦ kept_of e.key shelf ]) (row_on_disk s e.key)) (sym its ∙ is) both)
      by false is both = some (kept_of e.key shelf) (row_on_disk s e.key) refl refl (subst (λ (c : Bool). AreBoth IsKeptAs (elim c [ true ↦ None | false ↦ kept_of e.key shelf ]) (row_on_disk s e.key)) (sym its ∙ is) both)

  all_noted : (es : List Entry) → ((e : Entry) → IsIn e es → gone e ≡ noted e) → AreNoted m.outdated s.displaced es
  all_noted [] each = tt
  all_noted (e ∷ es) each = (each e (inl refl), all_noted es (λ d i. each d (inr i)))

pub are_noted : KeptOnesAreNoted
are_noted shelf m s shows unshut kept = all_noted shelf m s shows unshut kept s.entries (λ e i. noted_so shelf m s shows unshut kept e i)
