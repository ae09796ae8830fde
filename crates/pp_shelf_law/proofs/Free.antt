-- Which names are free for a new entry.
use Rattle.std.proofs.Common.{◌≡◌, refl, sym, ap, ◌∙◌, ℕ, ◌+◌, Bool, true, false, not, ◌&&◌, ◌||◌, cond, find, List, [], ◌∷◌, length, nat_lt, nat_le, Some, is_some, arith}
use Rattle.std.proofs.lemmas.Bool.Decides.{nat_tests}
use Rattle.std.proofs.lemmas.List.Sums.{length-filter}
use Rattle.std.specs.List.{list_any}
use Rattle.std.specs.Prelude.{bytes_eq}
use Rattle.pp_law.specs.Lists.{Bytes, has_text, without}
use Rattle.pp_law.specs.State.{State, Entry}
use Rattle.pp_law.specs.Store.{has_free_name, is_closed, is_named, names_taken}
use Rattle.pp_store.specs.Answers.{is_full}
use Rattle.pp_store.specs.Kept.{Kept, KeptMap, is_closed as is_closed_in, is_under, kept_under}
use Rattle.pp_shelf_law.specs.Kept.{FreeNamesAreTheLaws}
use Rattle.pp_shelf_law.specs.Shelf.{ShowEntries, ShowsShelf, is_shut}
use Rattle.pp_shelf_law.proofs.Lists.{true_false}
use Rattle.pp_shelf_law.proofs.Shelves.{same_bytes}

same_length : (rows : List Kept) (es : List Entry) → ShowEntries rows es → length rows ≡ length es
same_length [] [] all = refl
same_length [] (e ∷ es) all = absurd all
same_length (k ∷ rows) [] all = absurd all
same_length (k ∷ rows) (e ∷ es) all = omega (arith, same_length rows es all.1)

-- an entry has the name where one that is kept is under it
named_kept : (name : Bytes) (rows : List Kept) (es : List Entry) → ShowEntries rows es → list_any (is_named name) es ≡ is_some (find (is_under name) rows)
named_kept name [] [] all = refl
named_kept name [] (e ∷ es) all = absurd all
named_kept name (k ∷ rows) [] all = absurd all
named_kept name (k ∷ rows) (e ∷ es) all = by (is_under name k) (is_named name e) (ap (λ (n : Bytes). bytes_eq n name) all.0.name) (named_kept name rows es all.1)
  where
    by : (a b : Bool) → a ≡ b → list_any (is_named name) es ≡ is_some (find (is_under name) rows) → (b || list_any (is_named name) es) ≡ is_some (cond a (Some k) (find (is_under name) rows))
    by true true is rest = refl
    by true false is rest = true_false is
    by false true is rest = true_false (sym is)
    by false false is rest = rest

-- under a name that is not closed none is shut
named_left : (name : Bytes) (closed : List Bytes) (es : List Entry) → has_text name closed ≡ false → list_any (is_named name) es ≡ list_any (is_named name) (without (is_shut closed) es)
named_left name closed [] free = refl
named_left name closed (e ∷ es) free = by (is_named name e) (is_shut closed e) refl refl (named_left name closed es free)
  where
    by : (a b : Bool) → is_named name e ≡ a → is_shut closed e ≡ b → list_any (is_named name) es ≡ list_any (is_named name) (without (is_shut closed) es)
        → (a || list_any (is_named name) es) ≡ list_any (is_named name) (cond (not b) (e ∷ without (is_shut closed) es) (without (is_shut closed) es))
    by true true named shut rest = true_false (sym shut ∙ ap (λ (n : Bytes). has_text n closed) (same_bytes e.name name named) ∙ free)
    by true false named shut rest = sym (ap (λ (b : Bool). b || list_any (is_named name) (without (is_shut closed) es)) named)
    by false true named shut rest = rest
    by false false named shut rest = rest ∙ sym (ap (λ (b : Bool). b || list_any (is_named name) (without (is_shut closed) es)) named)

below_not : (a b : ℕ) → nat_lt a b ≡ not (nat_le b a)
below_not a b = grind (arith, nat_tests)

taken_is : (shelf : KeptMap) (s : State) → ShowsShelf shelf s → names_taken s ≡ length shelf.rows + length shelf.closed
taken_is shelf s shows =
    let left = same_length shelf.rows (without (is_shut s.closed_names) s.entries) shows.rows in
    omega (arith, shows.count, left, length-filter (λ e. not (is_shut s.closed_names e)) s.entries)

pub free_names : FreeNamesAreTheLaws
free_names shelf s name shows = by (is_closed s name) refl
  where
    room : nat_lt (names_taken s) 10000 ≡ not (is_full shelf)
    room = ap (λ (n : ℕ). nat_lt n 10000) (taken_is shelf s shows) ∙ below_not (length shelf.rows + length shelf.closed) 10000

    closed_off : (a b : Bool) → (a && false && b) ≡ false
    closed_off true b = refl
    closed_off false b = refl

    by : (c : Bool) → is_closed s name ≡ c → has_free_name s name ≡ (not (is_some (kept_under name shelf)) && not (is_closed_in name shelf) && not (is_full shelf))
    by true closed =
        ap (λ (c : Bool). not (list_any (is_named name) s.entries) && not c && nat_lt (names_taken s) 10000) closed
        ∙ closed_off (not (list_any (is_named name) s.entries)) (nat_lt (names_taken s) 10000)
        ∙ sym (ap (λ (c : Bool). not (is_some (kept_under name shelf)) && not c && not (is_full shelf)) (sym (shows.closed_same name) ∙ closed) ∙ closed_off (not (is_some (kept_under name shelf))) (not (is_full shelf)))
    by false unclosed =
        ap (λ (a : Bool). not a && not (is_closed s name) && nat_lt (names_taken s) 10000) (named_left name s.closed_names s.entries unclosed ∙ named_kept name shelf.rows (without (is_shut s.closed_names) s.entries) shows.rows)
        ∙ ap (λ (c : Bool). not (is_some (kept_under name shelf)) && not c && nat_lt (names_taken s) 10000) (shows.closed_same name)
        ∙ ap (λ (r : Bool). not (is_some (kept_under name shelf)) && not (is_closed_in name shelf) && r) room
