-- The row of a key after rows were changed, left memory or came into it.
use Rattle.std.proofs.Common.{◌≡◌, ◌⊎◌, refl, ℕ, nat_lt, Bool, true, false, not, List, [], ◌∷◌, filter, find, cond, Option, Some, None, inl, inr, sym, ap, ◌∙◌, option_map}
use Rattle.pp_fresh.specs.declared.aging.Times.{Times}
use Rattle.pp_head.specs.Response.{Response}
use Rattle.pp_text.specs.Fields.{Field}
use Rattle.pp_valid.specs.declared.version.Version.{Version}
use Rattle.pp_law.specs.Lists.{Bytes, change, is_some_with}
use Rattle.pp_law.specs.OwnHeads.{key_of, renewed, renew, renew_row, times_for, known_version}
use Rattle.pp_law.specs.State.{State, Exchange, Instance, Entry}
use Rattle.pp_law.specs.Table.{is_same_version, is_instance, is_row_of, is_left_over, row, rows, row_on_disk, idle_row, on_instance, forget, swept, clear, mark_row, forget_row, with_room, add_row, make_row, enter}
use Rattle.pp_laws.specs.Runs.{IsIn}
use Rattle.pp_laws.proofs.Lists.{Changed, in_change, in_find, in_moved, in_push, other, same, the_one}
use Rattle.pp_laws.proofs.Sound.{FactsOf, Since, instance_id}
use Rattle.pp_laws.proofs.Tests.{same_version}

-- ---- finding

find_none_filter_by : {A : Type 0} (p : A → Bool) (x : A) (t u : Bool) (xs ys : List A) → p x ≡ t → (find p xs ≡ None → find p ys ≡ None) → cond t (Some x) (find p xs) ≡ None → find p (cond u (x ∷ ys) ys) ≡ None
find_none_filter_by p x true u xs ys is rest none = absurd (cc none)
find_none_filter_by p x false true xs ys is rest none = ap (λ w. cond w (Some x) (find p ys)) is ∙ rest none
find_none_filter_by p x false false xs ys is rest none = rest none

pub find_none_filter : {A : Type 0} (p q : A → Bool) (xs : List A) → find p xs ≡ None → find p (filter q xs) ≡ None
find_none_filter p q [] is = refl
find_none_filter p q (x ∷ xs) is = find_none_filter_by p x (p x) (q x) xs (filter q xs) refl (find_none_filter p q xs) is

find_none_by : {A : Type 0} (p : A → Bool) (x y : A) (ys : List A) (t : Bool) → p y ≡ t → (find p ys ≡ None → IsIn x ys → p x ≡ true → ⊥) → cond t (Some y) (find p ys) ≡ None → IsIn x (y ∷ ys) → p x ≡ true → ⊥
find_none_by p x y ys true is rest none i holds = cc none
find_none_by p x y ys false is rest none (inl e) holds = let both : false ≡ true = sym is ∙ sym (ap p e) ∙ holds in cc both
find_none_by p x y ys false is rest none (inr i) holds = rest none i holds

-- none is there of which the test holds
find_none : {A : Type 0} (p : A → Bool) (x : A) (xs : List A) → find p xs ≡ None → IsIn x xs → p x ≡ true → ⊥
find_none p x [] none i holds = i
find_none p x (y ∷ ys) none i holds = find_none_by p x y ys (p y) refl (find_none p x ys) none i holds

find_changed_by : {A : Type 0} (p : A → Bool) (f : A → A) (x : A) (t : Bool) (found : Option A) → p x ≡ t → p (f x) ≡ false → found ≡ None
    → cond (p (elim t as (λ c. A) [ true ↦ f x | false ↦ x ])) (Some (elim t as (λ c. A) [ true ↦ f x | false ↦ x ])) found ≡ None
find_changed_by p f x true found is off none = ap (λ w. cond w (Some (f x)) found) off ∙ none
find_changed_by p f x false found is off none = ap (λ w. cond w (Some x) found) is ∙ none

-- where all of which the test holds are changed so that it does not
find_changed_none : {A : Type 0} (p : A → Bool) (f : A → A) → ((x : A) → p (f x) ≡ false) → (xs : List A) → find p (change p f xs) ≡ None
find_changed_none p f off [] = refl
find_changed_none p f off (x ∷ xs) = find_changed_by p f x (p x) (find p (change p f xs)) refl (off x) (find_changed_none p f off xs)

-- ---- no row of a key

abbrev pub HasNoRow : Bytes → State → Type 0
HasNoRow key s = row s key ≡ None

forget-no_row : (key : Bytes) (id : ℕ) (s : State) → HasNoRow key s → HasNoRow key (forget id s)
unfolding forget
forget-no_row key id s none = find_none_filter (is_row_of key) (λ x. not (is_instance id x)) s.instances none

swept-no_row : (key : Bytes) (s : State) → HasNoRow key s → HasNoRow key (swept s)
unfolding swept
swept-no_row key s none = find_none_filter (is_row_of key) (λ x. not (is_left_over s x)) s.instances none

pub clear-no_row : (key : Bytes) (s : State) → HasNoRow key (clear key s)
unfolding clear
clear-no_row key s = swept-no_row key _ (find_changed_none (is_row_of key) (λ x. record x { is_retired = true }) (λ x. refl) s.instances)

forget_row-no_row : (key : Bytes) (x : Instance) (s : State) → HasNoRow key s → HasNoRow key (forget_row x s)
unfolding forget_row
forget_row-no_row key x s none = forget-no_row key x.id s none

no_row_when : (key : Bytes) (t : Bool) (x y : State) → HasNoRow key x → HasNoRow key y → HasNoRow key (elim t as (λ c. State) [ true ↦ x | false ↦ y ])
no_row_when key true x y hx hy = hx
no_row_when key false x y hx hy = hy

no_row_each : {A : Type 0} (key : Bytes) (o : Option A) (x : State) (y : A → State) → HasNoRow key x → ((a : A) → HasNoRow key (y a)) → HasNoRow key (elim o as (λ c. State) [ None ↦ x | Some a ↦ y a ])
no_row_each key None x y hx hy = hx
no_row_each key (Some a) x y hx hy = hy a

pub with_room-no_row : (key : Bytes) (s : State) → HasNoRow key s → HasNoRow key (with_room s)
unfolding with_room
with_room-no_row key s none = no_row_when key (nat_lt (rows s) 1024) _ _ none (no_row_each key (idle_row s) _ _ none (λ x. forget_row-no_row key x s none))

pub no_row : (key : Bytes) (s : State) → HasNoRow key s → (x : Instance) → IsIn x s.instances → is_row_of key x ≡ true → ⊥
no_row key s none x i is = find_none (is_row_of key) x s.instances none i is

-- ---- the row of a key is of this version

abbrev pub RowIs : Bytes → Version → State → Type 0
RowIs key v s = (x : Instance) → IsIn x s.instances → is_row_of key x ≡ true → x.version ≡ v

add_row-is : (key : Bytes) (v : Version) (fields : List Field) (times : Times) (is_new : Bool) (s : State) → HasNoRow key s → RowIs key v (add_row key v fields times is_new s)
unfolding add_row
add_row-is key v fields times is_new s none x i is = by (in_push x s.instances _ i)
  where
    by : IsIn x s.instances ⊎ (x ≡ record { id = s.next_instance; key = key; version = v; fields = fields; times = times; is_retired = false; is_new = is_new }) → x.version ≡ v
    by (inl j) = absurd (no_row key s none x j is)
    by (inr e) = ap (λ (y : Instance). y.version) e

pub make_row-is : (key : Bytes) (v : Version) (fields : List Field) (times : Times) (s : State) → RowIs key v (make_row key v fields times s)
unfolding make_row
make_row-is key v fields times s = add_row-is key v fields times true (with_room (clear key s)) (with_room-no_row key (clear key s) (clear-no_row key s))

-- it is the only one
known_row : {b : Since} (key : Bytes) (v : Version) (s : State) → FactsOf b s → (y : Instance) → row s key ≡ Some y → is_same_version v y.version ≡ true → RowIs key v s
known_row key v s h y found known x i is =
    ap (λ (z : Instance). z.version) (the_one instance_id s.instances x y h.rows.differ i there.0 (h.rows.own_keys key x y i there.0 is there.1)) ∙ sym (same_version v y.version known)
  where
    there : IsIn y s.instances × (is_row_of key y ≡ true)
    there = in_find (is_row_of key) y s.instances found

-- where it is known to be of a version
known-is : {b : Since} (key : Bytes) (v : Version) (s : State) → FactsOf b s → is_some_with (is_same_version v) (known_version s key) ≡ true → RowIs key v s
known-is key v s h known = by (row s key) refl known
  where
    by : (o : Option Instance) → row s key ≡ o → is_some_with (is_same_version v) (option_map (λ (x : Instance). x.version) o) ≡ true → RowIs key v s
    by None none at = absurd (cc at)
    by (Some y) found at = known_row key v s h y found at

on_instance-is : (key : Bytes) (v : Version) (id : ℕ) (f : Instance → Instance) (s : State) → ((x : Instance) → is_row_of key (f x) ≡ is_row_of key x) → ((x : Instance) → (f x).version ≡ x.version) → RowIs key v s → RowIs key v (on_instance id f s)
unfolding on_instance
on_instance-is key v id f s row_kept version_kept was x i is = by (in_change (is_instance id) f x s.instances i)
  where
    by : Changed (is_instance id) f s.instances x → x.version ≡ v
    by (same j isnt) = was x j is
    by (other y j hit e) = ap (λ (z : Instance). z.version) e ∙ version_kept y ∙ was y j (sym (ap (is_row_of key) e ∙ row_kept y) ∙ is)

mark_row-is : (key : Bytes) (v : Version) (id : ℕ) (s : State) → RowIs key v s → RowIs key v (mark_row id s)
unfolding mark_row
mark_row-is key v id s was x i is = was x (in_moved (is_instance id) x s.instances i) is

renew-is : (key : Bytes) (v : Version) (x : Instance) (head : Response) (times : Times) (s : State) → RowIs key v s → RowIs key v (renew x head times s)
unfolding renew
renew-is key v x head times s is = mark_row-is key v x.id _ (on_instance-is key v x.id (renewed head times) s (λ y. refl) (λ y. refl) is)

is_each : (key : Bytes) (v : Version) (o : Option Instance) (x : State) (y : Instance → State) → RowIs key v x → ((a : Instance) → RowIs key v (y a)) → RowIs key v (elim o as (λ c. State) [ None ↦ x | Some a ↦ y a ])
is_each key v None x y hx hy = hx
is_each key v (Some a) x y hx hy = hy a

renew_row-is : (e : Exchange) (head : Response) (key : Bytes) (v : Version) (s : State) → RowIs key v s → RowIs key v (renew_row e head s)
unfolding renew_row
renew_row-is e head key v s is = is_each key v (row s (key_of e)) _ _ is (λ x. renew-is key v x head (times_for e head s) s is)

pub renew_row-knows : {b : Since} (e : Exchange) (head : Response) (v : Version) (s : State) → FactsOf b s → is_some_with (is_same_version v) (known_version s (key_of e)) ≡ true → RowIs (key_of e) v (renew_row e head s)
renew_row-knows e head v s h known = renew_row-is e head (key_of e) v s (known-is (key_of e) v s h known)
