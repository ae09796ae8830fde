-- A row that was made, brought into memory or marked is there.
use Rattle.std.proofs.Common.{◌≡◌, ◌⊎◌, refl, ℕ, Bool, true, false, not, List, [], ◌∷◌, ◌++◌, map, filter, find, cond, bytes_eq, Option, Some, None, inl, inr, sym, ap, ◌∙◌, option_map}
use Rattle.std.proofs.lemmas.Slice.Eq.{bytes_eq-Decides}
use Rattle.pp_fresh.specs.declared.aging.Times.{Times}
use Rattle.pp_head.specs.Response.{Response}
use Rattle.pp_text.specs.Fields.{Field}
use Rattle.pp_valid.specs.declared.version.Version.{Version}
use Rattle.pp_law.specs.Lists.{Bytes}
use Rattle.pp_law.specs.OwnHeads.{key_of, known_version, renew, renew_row, renewed, times_for}
use Rattle.pp_law.specs.State.{State, Exchange, Instance}
use Rattle.pp_law.specs.Table.{add_row, clear, is_instance, is_row_of, make_row, mark_row, on_instance, row, with_room}
use Rattle.pp_laws.specs.Runs.{IsIn}
use Rattle.pp_laws.proofs.Lists.{changed_at, in_find, in_front}

abbrev pub HasRow : Bytes → State → Type 0
HasRow key s = row s key ≡ None → ⊥

-- ---- in lists

pub found : {A : Type 0} (p : A → Bool) (x : A) (xs : List A) → IsIn x xs → p x ≡ true → find p xs ≡ None → ⊥
found p x [] i is none = i
found p x (y ∷ ys) i is none = by (p y) refl none i (λ rest j. found p x ys j is rest)
  where
    by : (t : Bool) → p y ≡ t → cond t (Some y) (find p ys) ≡ None → (x ≡ y) ⊎ IsIn x ys → (find p ys ≡ None → IsIn x ys → ⊥) → ⊥
    by true hit gone k more = cc gone
    by false off gone (inl eq) more = let both : true ≡ false = sym is ∙ ap p eq ∙ off in cc both
    by false off gone (inr j) more = more gone j

last : {A : Type 0} (x : A) (xs : List A) → IsIn x (xs ++ x ∷ [])
last x [] = inl refl
last x (y ∷ xs) = inr (last x xs)

mapped : {A : Type 0} (f : A → A) (x : A) (xs : List A) → IsIn x xs → IsIn (f x) (map f xs)
mapped f x [] i = i
mapped f x (y ∷ xs) (inl eq) = inl (ap f eq)
mapped f x (y ∷ xs) (inr i) = inr (mapped f x xs i)

filtered : {A : Type 0} (p : A → Bool) (x : A) (xs : List A) → IsIn x xs → p x ≡ true → IsIn x (filter p xs)
filtered p x [] i is = i
filtered p x (y ∷ ys) i is = by (p y) refl i (λ j. filtered p x ys j is)
  where
    by : (t : Bool) → p y ≡ t → (x ≡ y) ⊎ IsIn x ys → (IsIn x ys → IsIn x (filter p ys)) → IsIn x (cond t (y ∷ filter p ys) (filter p ys))
    by true hit (inl eq) rest = inl eq
    by true hit (inr j) rest = inr (rest j)
    by false off (inl eq) rest = let both : true ≡ false = sym is ∙ ap p eq ∙ off in absurd (cc both)
    by false off (inr j) rest = rest j

behind : {A : Type 0} (x : A) (xs ys : List A) → IsIn x ys → IsIn x (xs ++ ys)
behind x [] ys i = i
behind x (y ∷ xs) ys i = inr (behind x xs ys i)

-- those of which it holds stand behind the others
moved_in : {A : Type 0} (p : A → Bool) (x : A) (xs : List A) → IsIn x xs → IsIn x (filter (λ y. not (p y)) xs ++ filter p xs)
moved_in p x xs i = by (p x) refl
  where
    by : (t : Bool) → p x ≡ t → IsIn x (filter (λ y. not (p y)) xs ++ filter p xs)
    by true is = behind x (filter (λ y. not (p y)) xs) (filter p xs) (filtered p x xs i is)
    by false isnt = in_front x (filter (λ y. not (p y)) xs) (filter p xs) (filtered (λ y. not (p y)) x xs i (ap not isnt))

-- ---- rows

same_text : (key : Bytes) → bytes_eq key key ≡ true
same_text key = (bytes_eq-Decides key key).1 refl

pub add_row-has : (key : Bytes) (version : Version) (fields : List Field) (times : Times) (is_new : Bool) (s : State) → HasRow key (add_row key version fields times is_new s)
unfolding add_row
add_row-has key version fields times is_new s none = found (is_row_of key) _ _ (last _ s.instances) (same_text key) none

pub make_row-has : (key : Bytes) (version : Version) (fields : List Field) (times : Times) (s : State) → HasRow key (make_row key version fields times s)
unfolding make_row
make_row-has key version fields times s = add_row-has key version fields times true (with_room (clear key s))

pub mark_row-has : (key : Bytes) (id : ℕ) (s : State) → HasRow key s → HasRow key (mark_row id s)
unfolding mark_row
mark_row-has key id s has = by (row s key) refl
  where
    by : (o : Option Instance) → row s key ≡ o → HasRow key (mark_row id s)
    by None is none = has is
    by (Some x) is none = let there = in_find (is_row_of key) x s.instances is in found (is_row_of key) x _ (moved_in (is_instance id) x s.instances there.0) there.1 none

renew-has : (key : Bytes) (x : Instance) (head : Response) (times : Times) (s : State) → IsIn x s.instances → is_row_of key x ≡ true → HasRow key (renew x head times s)
unfolding renew mark_row on_instance
renew-has key x head times s there is none =
    found (is_row_of key) (changed_at (is_instance x.id) (renewed head times) x) _
    (moved_in (is_instance x.id) (changed_at (is_instance x.id) (renewed head times) x) _ (mapped (changed_at (is_instance x.id) (renewed head times)) x s.instances there)) (by (is_instance x.id x)) none
  where
    by : (t : Bool) → is_row_of key (elim t as (λ c. Instance) [ true ↦ renewed head times x | false ↦ x ]) ≡ true
    by true = is
    by false = is

renew_row-has : (e : Exchange) (head : Response) (s : State) → HasRow (key_of e) s → HasRow (key_of e) (renew_row e head s)
unfolding renew_row
renew_row-has e head s has = by (row s (key_of e)) refl
  where
    by : (o : Option Instance) → row s (key_of e) ≡ o → HasRow (key_of e) (elim o as (λ c. State) [ None ↦ s | Some x ↦ renew x head (times_for e head s) s ])
    by None is = has
    by (Some x) is = let there = in_find (is_row_of (key_of e)) x s.instances is in renew-has (key_of e) x head (times_for e head s) s there.0 there.1

pub renewed-has : (e : Exchange) (head : Response) (s : State) → (known_version s (key_of e) ≡ None → ⊥) → HasRow (key_of e) (renew_row e head s)
renewed-has e head s known = renew_row-has e head s (λ none. known (ap (λ (o : Option Instance). option_map (λ (x : Instance). x.version) o) none))
