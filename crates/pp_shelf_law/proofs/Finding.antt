-- What is found of a key, on the shelf and among the entries of the law.
use Rattle.std.proofs.Common.{◌≡◌, refl, sym, subst, ap, ◌∙◌, inl, inr, ◌≤◌, Bool, true, false, not, cond, find, filter, List, [], ◌∷◌, Some, None, arith}
use Rattle.std.specs.Prelude.{bytes_eq, count_by}
use Rattle.pp_cache_law.specs.Outdated.{AreNamed}
use Rattle.pp_law.specs.Lists.{Bytes, has_text, without}
use Rattle.pp_law.specs.State.{Entry}
use Rattle.pp_law.specs.Store.{is_closed, is_named}
use Rattle.pp_law.specs.Table.{is_entry_of}
use Rattle.pp_laws.proofs.Lists.{in_filter, in_find, the_one}
use Rattle.pp_laws.proofs.Sound.{facts_of, instance_id}
use Rattle.pp_laws.specs.Runs.{IsIn}
use Rattle.pp_obeys.proofs.Obeying.{obeys_good}
use Rattle.pp_store.proofs.Lists.{count-cons, one}
use Rattle.pp_store.specs.Changes.{lost}
use Rattle.pp_store.specs.Kept.{Kept, KeptMap, is_of}
use Rattle.pp_target.specs.Name.{name_of}
use Rattle.pp_shelf_law.specs.Kept.{KeptOnesAreTheLaws, OthersAreClosed, RowsStandAlone}
use Rattle.pp_shelf_law.specs.Shelf.{AreKept, ShowEntries, ShowsEntry, is_shut}
use Rattle.pp_shelf_law.proofs.Lists.{Agree, true_false}
use Rattle.pp_shelf_law.proofs.Shelves.{bytes_by, key_agrees, lost_name, same_bytes}

-- ---- one under a name

named_counts : (name : Bytes) (e : Entry) (es : List Entry) → IsIn e es → e.name ≡ name → 1 ≤ count_by (is_named name) es
named_counts name e [] i named = absurd i
named_counts name e (d ∷ es) (inl is) named = omega (arith, count-cons (is_named name) d es, ap one (bytes_by d.name name (ap (λ (x : Entry). x.name) (sym is) ∙ named)))
named_counts name e (d ∷ es) (inr i) named = omega (arith, count-cons (is_named name) d es, named_counts name e es i named)

pub one_named : (name : Bytes) (e d : Entry) (es : List Entry) → count_by (is_named name) es ≤ 1 → IsIn e es → e.name ≡ name → IsIn d es → d.name ≡ name → e ≡ d
one_named name e d [] few i named j other = absurd i
one_named name e d (x ∷ es) few (inl is) named (inl js) other = is ∙ sym js
one_named name e d (x ∷ es) few (inl is) named (inr j) other =
    absurd (omega (arith, few, count-cons (is_named name) x es, ap one (bytes_by x.name name (ap (λ (y : Entry). y.name) (sym is) ∙ named)), named_counts name d es j other))
one_named name e d (x ∷ es) few (inr i) named (inl js) other =
    absurd (omega (arith, few, count-cons (is_named name) x es, ap one (bytes_by x.name name (ap (λ (y : Entry). y.name) (sym js) ∙ other)), named_counts name e es i named))
one_named name e d (x ∷ es) few (inr i) named (inr j) other = one_named name e d es (omega (arith, few, count-cons (is_named name) x es)) i named j other

pub named_in : (e : Entry) (es : List Entry) → AreNamed es → IsIn e es → e.name ≡ name_of e.key
named_in e [] named i = absurd i
named_in e (d ∷ es) named (inl is) = subst (λ (x : Entry). x.name ≡ name_of x.key) (sym is) named.0
named_in e (d ∷ es) named (inr i) = named_in e es named.1 i

-- ---- one of a key

found_in : {A : Type 0} (p : A → Bool) (x : A) (xs : List A) → IsIn x xs → p x ≡ true → (y : A) × (find p xs ≡ Some y)
found_in p x [] i holds = absurd i
found_in p x (y ∷ ys) (inl is) holds = (y, ap (λ (b : Bool). cond b (Some y) (find p ys)) (ap p (sym is) ∙ holds))
found_in p x (y ∷ ys) (inr i) holds = by (p y) refl (found_in p x ys i holds)
  where
    by : (b : Bool) → p y ≡ b → ((z : _) × (find p ys ≡ Some z)) → (z : _) × (cond b (Some y) (find p ys) ≡ Some z)
    by true is rest = (y, refl)
    by false is rest = rest

-- of a key the one that is there is found
pub found_is : (key : Bytes) (e : Entry) (es : List Entry) → AreNamed es → ((name : Bytes) → count_by (is_named name) es ≤ 1) → IsIn e es → e.key ≡ key → find (is_entry_of key) es ≡ Some e
found_is key e es named once i of =
    let found = found_in (is_entry_of key) e es i (bytes_by e.key key of) in
    let there = in_find (is_entry_of key) found.0 es found.1 in
    let its_key : found.0.key ≡ key = same_bytes found.0.key key there.1 in
    let same : found.0 ≡ e = one_named (name_of key) found.0 e es (once (name_of key)) there.0 (named_in found.0 es named there.0 ∙ ap name_of its_key) i (named_in e es named i ∙ ap name_of of) in
    found.1 ∙ ap (λ (x : Entry). Some x) same

-- ---- what is kept of a key

record IsPaired (key : Bytes) (k : Kept) (es : List Entry) : Type 0 where
  entry : Entry
  there : IsIn entry es
  shows : ShowsEntry k entry

paired : (key : Bytes) (k : Kept) (rows : List Kept) (es : List Entry) → ShowEntries rows es → find (is_of key) rows ≡ Some k → IsPaired key k es
paired key k [] es all found = absurd (cc found)
paired key k (j ∷ rows) [] all found = absurd all
paired key k (j ∷ rows) (e ∷ es) all found = by (is_of key j) found (paired key k rows es all.1)
  where
    by : (b : Bool) → cond b (Some j) (find (is_of key) rows) ≡ Some k → (find (is_of key) rows ≡ Some k → IsPaired key k es) → IsPaired key k (e ∷ es)
    by true eq rest = let same : j ≡ k = cc eq in record { entry = e; there = inl refl; shows = subst (λ (x : Kept). ShowsEntry x e) same all.0 }
    by false eq rest = let r = rest eq in record { entry = r.entry; there = inr r.there; shows = r.shows }

not_kept : (key : Bytes) (rows : List Kept) (es : List Entry) (e : Entry) → ShowEntries rows es → find (is_of key) rows ≡ None → IsIn e es → e.key ≡ key → ⊥
not_kept key [] [] e all none i of = i
not_kept key [] (d ∷ es) e all none i of = absurd all
not_kept key (j ∷ rows) [] e all none i of = absurd all
not_kept key (j ∷ rows) (d ∷ es) e all none i of = by (is_of key j) refl none i (not_kept key rows es e all.1)
  where
    by : (b : Bool) → is_of key j ≡ b → cond b (Some j) (find (is_of key) rows) ≡ None → IsIn e (d ∷ es) → (find (is_of key) rows ≡ None → IsIn e es → e.key ≡ key → ⊥) → ⊥
    by true is eq i rest = cc eq
    by false is eq (inl same) rest = true_false (sym (bytes_by j.entry.key key (all.0.key ∙ ap (λ (x : Entry). x.key) (sym same) ∙ of)) ∙ is)
    by false is eq (inr i) rest = rest eq i of

off_by : (b : Bool) → not b ≡ true → b ≡ false
off_by true is = true_false (sym is)
off_by false is = refl

kept_key : (key : Bytes) (k : Kept) (rows : List Kept) → find (is_of key) rows ≡ Some k → k.entry.key ≡ key
kept_key key k rows found = same_bytes k.entry.key key (in_find (is_of key) k rows found).1

pub kept_ones : KeptOnesAreTheLaws
kept_ones shelf s key kept shows found =
    let pair = paired key kept shelf.rows (without (is_shut s.closed_names) s.entries) shows.rows found in
    let there = in_filter (λ e. not (is_shut s.closed_names e)) pair.entry s.entries pair.there in
    record {
      entry = pair.entry;
      there = found_is key pair.entry s.entries shows.named shows.once there.0 (sym pair.shows.key ∙ kept_key key kept shelf.rows found);
      unclosed = off_by (is_shut s.closed_names pair.entry) there.1;
      shows = pair.shows;
    }

into_by : {A : Type 0} (p : A → Bool) (x y : A) (ys : List A) (b : Bool) → p y ≡ b → (IsIn x ys → IsIn x (filter p ys)) → IsIn x (y ∷ ys) → p x ≡ true → IsIn x (cond b (y ∷ filter p ys) (filter p ys))
into_by p x y ys true is rest (inl same) holds = inl same
into_by p x y ys true is rest (inr i) holds = inr (rest i)
into_by p x y ys false is rest (inl same) holds = true_false (sym holds ∙ ap p same ∙ is)
into_by p x y ys false is rest (inr i) holds = rest i

pub into_filter : {A : Type 0} (p : A → Bool) (x : A) (xs : List A) → IsIn x xs → p x ≡ true → IsIn x (filter p xs)
into_filter p x [] i holds = absurd i
into_filter p x (y ∷ ys) i holds = into_by p x y ys (p y) refl (λ j. into_filter p x ys j holds) i holds

pub others : OthersAreClosed
others shelf s key e shows none there = by (is_closed s e.name) refl
  where
    by : (b : Bool) → is_closed s e.name ≡ b → b ≡ true
    by true is = refl
    by false is =
        let found = in_find (is_entry_of key) e s.entries there in
        absurd (not_kept key shelf.rows (without (is_shut s.closed_names) s.entries) e shows.rows none (into_filter (λ d. not (is_shut s.closed_names d)) e s.entries found.0 (ap (λ (b : Bool). not b) is)) (same_bytes e.key key found.1))

-- ---- a name that is closed

-- the entry of a key stands under it still, and is kept no more
pub lost_one : (key : Bytes) (shelf : KeptMap) (es : List Entry) (names : List Bytes) (e : Entry) → AreKept shelf es names → find (is_entry_of key) es ≡ Some e → e.name ≡ name_of key → has_text e.name names ≡ false
    → AreKept (lost key shelf) es (e.name ∷ without (bytes_eq e.name) names)
lost_one key shelf es names e kept found named unclosed =
    let agree : Agree (is_entry_of key) (is_named (name_of key)) es = key_agrees key (is_entry_of key) es e (λ d is. is) kept.named (kept.once (name_of key)) found in
    subst (λ (n : Bytes). AreKept (lost key shelf) es (n ∷ without (bytes_eq n) names)) (sym named)
    (lost_name key shelf es es names kept (ap (λ (n : Bytes). has_text n names) (sym named) ∙ unclosed) agree kept.named kept.once refl agree)

-- ---- rows in memory

pub stand_alone : RowsStandAlone
stand_alone terms s log obeys key x y i j is js =
    let facts = facts_of (obeys_good obeys).sound in
    the_one instance_id s.instances x y facts.rows.differ i j (facts.rows.own_keys key x y i j is js)
