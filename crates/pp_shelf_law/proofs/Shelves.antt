-- How entries that are taken out, extended or added, and names that are closed, are shown.
use Rattle.std.proofs.Common.{◌≡◌, refl, sym, subst, ap, ◌∙◌, ◌≤◌, Bool, true, false, not, ◌||◌, cond, find, filter, List, [], ◌∷◌, ◌++◌, length, length-append, Some, arith}
use Rattle.std.specs.List.{list_any}
use Rattle.std.specs.Prelude.{bytes_eq, count_by}
use Rattle.std.proofs.lemmas.List.Folds.{list_any-append}
use Rattle.std.proofs.lemmas.Slice.Eq.{bytes_eq-Decides}
use Rattle.pp_cache_law.specs.Outdated.{AreNamed}
use Rattle.pp_law.specs.Lists.{Bytes, has_text, without}
use Rattle.pp_law.specs.State.{Entry}
use Rattle.pp_law.specs.Store.{is_named}
use Rattle.pp_law.specs.Table.{is_entry_of}
use Rattle.pp_store.proofs.Lists.{count-cons, count-filter, one}
use Rattle.pp_store.specs.Changes.{is_other, lost, without as without_key}
use Rattle.pp_store.specs.Kept.{Kept, KeptMap, is_closed, is_name}
use Rattle.pp_target.specs.Name.{name_of}
use Rattle.pp_shelf_law.specs.Shelf.{AreKept, ShowEntries, ShowsEntry, is_shut}
use Rattle.pp_shelf_law.proofs.Lists.{Agree, agree_filter, agree_without, true_false, without_swap}

-- ---- bytes

pub bytes_same : (xs : Bytes) → bytes_eq xs xs ≡ true
bytes_same xs = (bytes_eq-Decides xs xs).1 refl

pub same_bytes : (xs ys : Bytes) → bytes_eq xs ys ≡ true → xs ≡ ys
same_bytes xs ys is = (bytes_eq-Decides xs ys).0 is

pub bytes_by : (xs ys : Bytes) → xs ≡ ys → bytes_eq xs ys ≡ true
bytes_by xs ys is = (bytes_eq-Decides xs ys).1 is

swap_by : (xs ys : Bytes) (a b : Bool) → bytes_eq xs ys ≡ a → bytes_eq ys xs ≡ b → a ≡ b
swap_by xs ys true true ia ib = refl
swap_by xs ys true false ia ib = true_false (sym (bytes_by ys xs (sym (same_bytes xs ys ia))) ∙ ib)
swap_by xs ys false true ia ib = true_false (sym (bytes_by xs ys (sym (same_bytes ys xs ib))) ∙ ia)
swap_by xs ys false false ia ib = refl

pub bytes_swap : (xs ys : Bytes) → bytes_eq xs ys ≡ bytes_eq ys xs
bytes_swap xs ys = swap_by xs ys (bytes_eq xs ys) (bytes_eq ys xs) refl refl

-- ---- pairs

both_by : (p : Kept → Bool) (q : Entry → Bool) (k : Kept) (e : Entry) (rows : List Kept) (es : List Entry) (a b : Bool) → a ≡ b → ShowsEntry k e → ShowEntries (filter p rows) (filter q es)
    → ShowEntries (cond a (k ∷ filter p rows) (filter p rows)) (cond b (e ∷ filter q es) (filter q es))
both_by p q k e rows es true true is one rest = (one, rest)
both_by p q k e rows es true false is one rest = true_false is
both_by p q k e rows es false true is one rest = true_false (sym is)
both_by p q k e rows es false false is one rest = rest

pub both_filter : (p : Kept → Bool) (q : Entry → Bool) (rows : List Kept) (es : List Entry) → ((k : Kept) (e : Entry) → ShowsEntry k e → p k ≡ q e) → ShowEntries rows es → ShowEntries (filter p rows) (filter q es)
both_filter p q [] [] same all = tt
both_filter p q [] (e ∷ es) same all = absurd all
both_filter p q (k ∷ rows) [] same all = absurd all
both_filter p q (k ∷ rows) (e ∷ es) same all = both_by p q k e rows es (p k) (q e) (same k e all.0) all.0 (both_filter p q rows es same all.1)

-- the entry of a key is out in both
pub both_without : (key : Bytes) (rows : List Kept) (es : List Entry) → ShowEntries rows es → ShowEntries (filter (is_other key) rows) (without (is_entry_of key) es)
both_without key rows es all = both_filter (is_other key) (λ e. not (is_entry_of key e)) rows es (λ k e one. ap (λ (xs : Bytes). not (bytes_eq xs key)) one.key) all

pub both_push : (k : Kept) (e : Entry) (rows : List Kept) (es : List Entry) → ShowsEntry k e → ShowEntries rows es → ShowEntries (rows ++ k ∷ []) (es ++ e ∷ [])
both_push k e [] [] one all = (one, tt)
both_push k e [] (d ∷ es) one all = absurd all
both_push k e (j ∷ rows) [] one all = absurd all
both_push k e (j ∷ rows) (d ∷ es) one all = (all.0, both_push k e rows es one all.1)

-- ---- names

named_by : (p : Entry → Bool) (e : Entry) (es : List Entry) (b : Bool) → e.name ≡ name_of e.key → AreNamed (filter p es) → AreNamed (cond b (e ∷ filter p es) (filter p es))
named_by p e es true one rest = (one, rest)
named_by p e es false one rest = rest

pub named_filter : (p : Entry → Bool) (es : List Entry) → AreNamed es → AreNamed (filter p es)
named_filter p [] named = tt
named_filter p (e ∷ es) named = named_by p e es (p e) named.0 (named_filter p es named.1)

pub once_filter : (p : Entry → Bool) (es : List Entry) → ((name : Bytes) → count_by (is_named name) es ≤ 1) → (name : Bytes) → count_by (is_named name) (filter p es) ≤ 1
once_filter p es once name = omega (arith, once name, count-filter (is_named name) p es)

-- an entry of a key has its name
of_key : (key : Bytes) (e : Entry) → e.name ≡ name_of e.key → is_entry_of key e ≡ true → is_named (name_of key) e ≡ true
of_key key e named is = bytes_by e.name (name_of key) (named ∙ ap name_of (same_bytes e.key key is))

-- where no two have one name, the entry of a key is the one under its name: where nobody has the name, nobody has the key
none_agree : (key : Bytes) (q : Entry → Bool) (es : List Entry) → ((e : Entry) → q e ≡ true → is_entry_of key e ≡ true) → AreNamed es → count_by (is_named (name_of key)) es ≡ 0 → Agree q (is_named (name_of key)) es
none_agree key q [] only named none = tt
none_agree key q (e ∷ es) only named none = (
  by (q e) (is_named (name_of key) e) refl refl,
  none_agree key q es only named.1 (omega (arith, none, count-cons (is_named (name_of key)) e es)),
)
  where
    by : (a b : Bool) → q e ≡ a → is_named (name_of key) e ≡ b → a ≡ b
    by a true ia ib = absurd (omega (arith, none, count-cons (is_named (name_of key)) e es, ap one ib))
    by true false ia ib = true_false (sym (of_key key e named.0 (only e ia)) ∙ ib)
    by false false ia ib = refl

some_named : (key : Bytes) (q : Entry → Bool) (es : List Entry) (y : Entry) → ((e : Entry) → q e ≡ true → is_entry_of key e ≡ true) → AreNamed es → find q es ≡ Some y → 1 ≤ count_by (is_named (name_of key)) es
some_named key q [] y only named found = absurd (cc found)
some_named key q (e ∷ es) y only named found = by (q e) refl found (some_named key q es y only named.1)
  where
    by : (b : Bool) → q e ≡ b → cond b (Some e) (find q es) ≡ Some y → (find q es ≡ Some y → 1 ≤ count_by (is_named (name_of key)) es) → 1 ≤ count_by (is_named (name_of key)) (e ∷ es)
    by true is eq rest = omega (arith, count-cons (is_named (name_of key)) e es, ap one (of_key key e named.0 (only e is)))
    by false is eq rest = omega (arith, count-cons (is_named (name_of key)) e es, rest eq)

-- the test finds one of the key, so it tells the one under its name
pub key_agrees : (key : Bytes) (q : Entry → Bool) (es : List Entry) (y : Entry) → ((e : Entry) → q e ≡ true → is_entry_of key e ≡ true) → AreNamed es → count_by (is_named (name_of key)) es ≤ 1 → find q es ≡ Some y → Agree q (is_named (name_of key)) es
key_agrees key q [] y only named few found = tt
key_agrees key q (e ∷ es) y only named few found = by (q e) refl found (key_agrees key q es y only named.1)
  where
    by : (b : Bool) → q e ≡ b → cond b (Some e) (find q es) ≡ Some y → (count_by (is_named (name_of key)) es ≤ 1 → find q es ≡ Some y → Agree q (is_named (name_of key)) es) → Agree q (is_named (name_of key)) (e ∷ es)
    by true is eq rest =
        let its : is_named (name_of key) e ≡ true = of_key key e named.0 (only e is) in
        (is ∙ sym its, none_agree key q es only named.1 (omega (arith, few, count-cons (is_named (name_of key)) e es, ap one its)))
    by false is eq rest =
        let some = some_named key q es y only named.1 eq in
        (is ∙ sym (off (is_named (name_of key) e) refl), rest (omega (arith, few, count-cons (is_named (name_of key)) e es)) eq)
      where
        off : (b : Bool) → is_named (name_of key) e ≡ b → b ≡ false
        off true named_so = absurd (omega (arith, few, some_named key q es y only named.1 eq, count-cons (is_named (name_of key)) e es, ap one named_so))
        off false named_so = refl

-- ---- closed names

still_by : (name other : Bytes) (n : Bytes) (b : Bool) (left all : Bool) → bytes_eq name n ≡ b → bytes_eq name other ≡ false → left ≡ all → (cond (not b) (bytes_eq n other || left) left) ≡ (bytes_eq n other || all)
still_by name other n true left all is differs same =
    same ∙ sym (ap (λ (b : Bool). b || all) (ap (λ (xs : Bytes). bytes_eq xs other) (sym (same_bytes name n is)) ∙ differs))
still_by name other n false left all is differs same = ap (λ (b : Bool). bytes_eq n other || b) same

cond_any : (b : Bool) (other n : Bytes) (names : List Bytes) → has_text other (cond b (n ∷ names) names) ≡ cond b (bytes_eq n other || has_text other names) (has_text other names)
cond_any true other n names = refl
cond_any false other n names = refl

other_stays : (name other : Bytes) (names : List Bytes) → bytes_eq name other ≡ false → has_text other (without (bytes_eq name) names) ≡ has_text other names
other_stays name other [] differs = refl
other_stays name other (n ∷ names) differs =
    cond_any (not (bytes_eq name n)) other n (without (bytes_eq name) names)
    ∙ still_by name other n (bytes_eq name n) (has_text other (without (bytes_eq name) names)) (has_text other names) refl differs (other_stays name other names differs)

-- one is closed more
pub closed_more : (name other : Bytes) (names : List Bytes) → has_text other (name ∷ without (bytes_eq name) names) ≡ (bytes_eq name other || has_text other names)
closed_more name other names = by (bytes_eq name other) refl
  where
    by : (b : Bool) → bytes_eq name other ≡ b → (b || has_text other (without (bytes_eq name) names)) ≡ (b || has_text other names)
    by true is = refl
    by false is = other_stays name other names is

pub same_names : (name : Bytes) (names : List Bytes) → has_text name names ≡ false → without (bytes_eq name) names ≡ names
same_names name [] none = refl
same_names name (n ∷ names) none = by (bytes_eq n name) refl none (same_names name names)
  where
    by : (b : Bool) → bytes_eq n name ≡ b → (b || has_text name names) ≡ false → (has_text name names ≡ false → without (bytes_eq name) names ≡ names) → without (bytes_eq name) (n ∷ names) ≡ n ∷ names
    by true is none rest = true_false none
    by false is none rest = ap (λ (b : Bool). cond (not b) (n ∷ without (bytes_eq name) names) (without (bytes_eq name) names)) (bytes_swap name n ∙ is) ∙ ap (λ (ns : List Bytes). n ∷ ns) (rest none)

or_swap : (a b : Bool) → (a || b) ≡ (b || (a || false))
or_swap true true = refl
or_swap true false = refl
or_swap false true = refl
or_swap false false = refl

pub closed_shown : (shelf : KeptMap) (names : List Bytes) (name : Bytes) → ((n : Bytes) → has_text n names ≡ is_closed n shelf) → (n : Bytes) → has_text n (name ∷ without (bytes_eq name) names) ≡ list_any (is_name n) (shelf.closed ++ name ∷ [])
closed_shown shelf names name same n =
    closed_more name n names ∙ ap (λ (b : Bool). bytes_eq name n || b) (same n) ∙ or_swap (bytes_eq name n) (is_closed n shelf) ∙ sym (list_any-append (is_name n) shelf.closed (name ∷ []))

pub closed_count : (name : Bytes) (names closed : List Bytes) → length names ≡ length closed → has_text name names ≡ false → length (name ∷ without (bytes_eq name) names) ≡ length (closed ++ name ∷ [])
closed_count name names closed same none = omega (arith, same, ap (λ (ns : List Bytes). length ns) (same_names name names none), length-append closed (name ∷ []))

-- of the entries those under that name are out, of those that were left
pub shut_more : (name : Bytes) (names : List Bytes) (es : List Entry) → without (is_shut (name ∷ without (bytes_eq name) names)) es ≡ without (is_named name) (without (is_shut names) es)
shut_more name names [] = refl
shut_more name names (e ∷ es) = by (bytes_eq name e.name) (has_text e.name names) (closed_more name e.name names) (bytes_swap e.name name) (shut_more name names es)
  where
    by : (a b : Bool) → is_shut (name ∷ without (bytes_eq name) names) e ≡ (a || b) → is_named name e ≡ a → without (is_shut (name ∷ without (bytes_eq name) names)) es ≡ without (is_named name) (without (is_shut names) es)
        → without (is_shut (name ∷ without (bytes_eq name) names)) (e ∷ es) ≡ without (is_named name) (cond (not b) (e ∷ without (is_shut names) es) (without (is_shut names) es))
    by true true is its rest = ap (λ (t : Bool). cond (not t) (e ∷ without (is_shut (name ∷ without (bytes_eq name) names)) es) (without (is_shut (name ∷ without (bytes_eq name) names)) es)) is ∙ rest
    by true false is its rest =
        ap (λ (t : Bool). cond (not t) (e ∷ without (is_shut (name ∷ without (bytes_eq name) names)) es) (without (is_shut (name ∷ without (bytes_eq name) names)) es)) is ∙ rest
        ∙ sym (ap (λ (t : Bool). cond (not t) (e ∷ without (is_named name) (without (is_shut names) es)) (without (is_named name) (without (is_shut names) es))) its)
    by false true is its rest = ap (λ (t : Bool). cond (not t) (e ∷ without (is_shut (name ∷ without (bytes_eq name) names)) es) (without (is_shut (name ∷ without (bytes_eq name) names)) es)) is ∙ rest
    by false false is its rest =
        ap (λ (t : Bool). cond (not t) (e ∷ without (is_shut (name ∷ without (bytes_eq name) names)) es) (without (is_shut (name ∷ without (bytes_eq name) names)) es)) is
        ∙ ap (λ (ds : List Entry). e ∷ ds) rest
        ∙ sym (ap (λ (t : Bool). cond (not t) (e ∷ without (is_named name) (without (is_shut names) es)) (without (is_named name) (without (is_shut names) es))) its)

-- ---- what becomes of the shelf

-- the entry of a key is out
pub taken_out : (key : Bytes) (shelf : KeptMap) (es : List Entry) (names : List Bytes) → AreKept shelf es names → AreKept (without_key key shelf) (without (is_entry_of key) es) names
taken_out key shelf es names kept = record {
  rows = subst (λ (ds : List Entry). ShowEntries (filter (is_other key) shelf.rows) ds) (sym (without_swap (is_shut names) (is_entry_of key) es)) (both_without key shelf.rows (without (is_shut names) es) kept.rows);
  closed_same = kept.closed_same;
  count = kept.count;
  named = named_filter (λ e. not (is_entry_of key e)) es kept.named;
  once = once_filter (λ e. not (is_entry_of key e)) es kept.once;
}

-- a name is closed, under which an entry of the key is, or was
pub lost_name : (key : Bytes) (shelf : KeptMap) (es ds : List Entry) (names : List Bytes) → AreKept shelf es names → has_text (name_of key) names ≡ false → Agree (is_entry_of key) (is_named (name_of key)) es
    → AreNamed ds → ((name : Bytes) → count_by (is_named name) ds ≤ 1) → without (is_entry_of key) (without (is_shut names) ds) ≡ without (is_entry_of key) (without (is_shut names) es) → Agree (is_entry_of key) (is_named (name_of key)) ds
    → AreKept (lost key shelf) ds (name_of key ∷ without (bytes_eq (name_of key)) names)
lost_name key shelf es ds names kept unclosed agree named once same agree_ds = record {
  rows = subst (λ (xs : List Entry). ShowEntries (filter (is_other key) shelf.rows) xs)
      (sym (shut_more (name_of key) names ds ∙ sym (agree_without (is_entry_of key) (is_named (name_of key)) (without (is_shut names) ds) (agree_filter (is_entry_of key) (is_named (name_of key)) (λ e. not (is_shut names e)) ds agree_ds)) ∙ same))
      (both_without key shelf.rows (without (is_shut names) es) kept.rows);
  closed_same = closed_shown shelf names (name_of key) kept.closed_same;
  count = closed_count (name_of key) names shelf.closed kept.count unclosed;
  named = named;
  once = once;
}
