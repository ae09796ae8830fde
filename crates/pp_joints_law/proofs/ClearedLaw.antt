-- Which rows are cleared, in the law, as attempts are lost: of each of these the entry is noted, and no other row goes.
use Rattle.std.proofs.Common.{◌≡◌, refl, sym, ap, ◌∙◌, Bool, true, false, not, ◌&&◌, ◌||◌, cond, find, is_some, List, [], ◌∷◌, ◌++◌, Option, Some, None}
use Rattle.std.proofs.lemmas.Slice.Eq.{bytes_eq-Decides}
use Rattle.std.specs.Prelude.{bytes_eq}
use Rattle.pp_cache_law.specs.Outdated.{AreNamed, AreNoted}
use Rattle.pp_joints_law.proofs.Clearings.{key_noted, stay_named}
use Rattle.pp_joints_law.proofs.Names.{names_of}
use Rattle.pp_law.specs.Lists.{Bytes, change, has_text, without}
use Rattle.pp_law.specs.State.{State, Entry, Instance}
use Rattle.pp_law.specs.Table.{clear, is_left_over, is_row_of, swept}

-- ---- what was cleared

abbrev pub rowed : Bytes → List Instance → Bool
rowed key xs = is_some (find (is_row_of key) xs)

pub record Cleared (o : State) (entries : List Entry) (displaced : List Bytes) (xs : List Instance) (forgotten : List Bytes) (evicting : Bool) : Type 0 where
  pub keys : List Bytes
  pub rows : (key : Bytes) → rowed key xs ≡ (rowed key o.instances && not (has_text key keys))
  pub there : (key : Bytes) → has_text key keys ≡ true → rowed key o.instances ≡ true
  pub named : AreNamed o.entries → AreNamed entries
  pub noted : AreNamed o.entries → (names : List Bytes) → AreNoted names o.displaced o.entries → AreNoted (names_of keys ++ names) displaced entries
  pub forgotten_is : forgotten ≡ o.forgotten
  pub evicting_is : evicting ≡ o.is_evicting

pub data Clears (o s : State) : Type 0 where
  clears : Cleared o s.entries s.displaced s.instances s.forgotten s.is_evicting → Clears o s

pub facts_of : {o s : State} → Clears o s → Cleared o s.entries s.displaced s.instances s.forgotten s.is_evicting
facts_of (clears facts) = facts

pub clears_none : (s : State) → Clears s s
clears_none s = clears (record { keys = []; rows = λ key. sym (and_true (rowed key s.instances)); there = λ key has. absurd (cc has); named = λ all. all; noted = λ named names all. all; forgotten_is = refl; evicting_is = refl })
  where
    and_true : (b : Bool) → (b && true) ≡ b
    and_true true = refl
    and_true false = refl

-- ---- by cases

pub when : {o : State} (t : Bool) {x y : State} → Clears o x → Clears o y → Clears o (elim t as (λ c. State) [ true ↦ x | false ↦ y ])
when true hx hy = hx
when false hx hy = hy

pub when_so : {o : State} (t : Bool) {x y : State} → (t ≡ true → Clears o x) → Clears o y → Clears o (elim t as (λ c. State) [ true ↦ x | false ↦ y ])
when_so true hx hy = hx refl
when_so false hx hy = hy

pub each_of : {A : Type 0} {o : State} (x : Option A) {u : State} {v : A → State} → Clears o u → ((a : A) → Clears o (v a)) → Clears o (elim x as (λ c. State) [ None ↦ u | Some a ↦ v a ])
each_of None hx hy = hx
each_of (Some a) hx hy = hy a

-- ---- retired versions leave memory: no row does

retired_out : (key : Bytes) (r : Bool) (x : Instance) → x.is_retired ≡ true → is_row_of key x ≡ false
retired_out key r x is = ap (λ (b : Bool). not b && bytes_eq x.key key) is

left_over : (s : State) (x : Instance) → is_left_over s x ≡ true → x.is_retired ≡ true
left_over s x is = first x.is_retired _ is
  where
    first : (a b : Bool) → (a && b) ≡ true → a ≡ true
    first true b is = refl
    first false b is = absurd (cc is)

find_left : (key : Bytes) (p : Instance → Bool) (xs : List Instance) → ((x : Instance) → p x ≡ true → is_row_of key x ≡ false) → find (is_row_of key) (without p xs) ≡ find (is_row_of key) xs
find_left key p [] out = refl
find_left key p (x ∷ xs) out = by (p x) refl (find_left key p xs out)
  where
    by : (b : Bool) → p x ≡ b → find (is_row_of key) (without p xs) ≡ find (is_row_of key) xs → find (is_row_of key) (cond (not b) (x ∷ without p xs) (without p xs)) ≡ cond (is_row_of key x) (Some x) (find (is_row_of key) xs)
    by true is rest = rest ∙ sym (ap (λ (b : Bool). cond b (Some x) (find (is_row_of key) xs)) (out x is))
    by false is rest = ap (λ (o : Option Instance). cond (is_row_of key x) (Some x) o) rest

pub swept-clears : {o : State} (s : State) → Clears o s → Clears o (swept s)
unfolding swept
swept-clears {o} s h = clears (record {
  keys = f.keys;
  rows = λ key. ap is_some (find_left key (is_left_over s) s.instances (λ x is. retired_out key true x (left_over s x is))) ∙ f.rows key;
  there = f.there;
  named = f.named;
  noted = f.noted;
  forgotten_is = f.forgotten_is;
  evicting_is = f.evicting_is;
})
  where
    f : Cleared o s.entries s.displaced s.instances s.forgotten s.is_evicting
    f = facts_of h

-- ---- a row is cleared

abbrev retired : Instance → Instance
retired x = record x { is_retired = true }

and_false : (b : Bool) → (b && false) ≡ false
and_false true = refl
and_false false = refl

rows_cleared : (k key : Bytes) (xs : List Instance) → rowed key (change (is_row_of k) retired xs) ≡ (rowed key xs && not (bytes_eq k key))
rows_cleared k key [] = refl
rows_cleared k key (x ∷ xs) = by x.is_retired refl (bytes_eq x.key k) refl (bytes_eq x.key key) refl (bytes_eq k key) refl (rows_cleared k key xs)
  where
    rest : List Instance
    rest = change (is_row_of k) retired xs

    keys_same : bytes_eq x.key k ≡ true → bytes_eq x.key key ≡ bytes_eq k key
    keys_same is = ap (λ (t : Bytes). bytes_eq t key) ((bytes_eq-Decides x.key k).0 is)

    keys_apart : bytes_eq x.key k ≡ false → bytes_eq x.key key ≡ true → bytes_eq k key ≡ false
    keys_apart apart is = at (bytes_eq k key) refl
      where
        at : (b : Bool) → bytes_eq k key ≡ b → b ≡ false
        at false e = refl
        at true e = absurd (let both : true ≡ false = sym ((bytes_eq-Decides x.key k).1 ((bytes_eq-Decides x.key key).0 is ∙ sym ((bytes_eq-Decides k key).0 e))) ∙ apart in cc both)

    by : (r : Bool) → x.is_retired ≡ r → (a : Bool) → bytes_eq x.key k ≡ a → (b : Bool) → bytes_eq x.key key ≡ b → (c : Bool) → bytes_eq k key ≡ c → rowed key rest ≡ (rowed key xs && not (bytes_eq k key))
        → is_some (cond (is_row_of key (elim (not r && a) as (λ t. Instance) [ true ↦ retired x | false ↦ x ])) (Some (elim (not r && a) as (λ t. Instance) [ true ↦ retired x | false ↦ x ])) (find (is_row_of key) rest))
        ≡ (is_some (cond (not r && b) (Some x) (find (is_row_of key) xs)) && not (bytes_eq k key))
    by true is a ia b ib c ic ih = ap (λ (t : Bool). is_some (cond (not t && bytes_eq x.key key) (Some x) (find (is_row_of key) rest))) is ∙ ih
    by false is true ia true ib c ic ih =
        ih ∙ ap (λ (t : Bool). rowed key xs && not t) (sym (keys_same ia) ∙ ib) ∙ and_false (rowed key xs) ∙ sym (ap not (sym (keys_same ia) ∙ ib))
    by false is true ia false ib c ic ih = ih
    by false is false ia true ib c ic ih =
        ap (λ (t : Bool). is_some (cond t (Some x) (find (is_row_of key) rest))) (ap (λ (t : Bool). not t && bytes_eq x.key key) is ∙ ib) ∙ sym (ap not (keys_apart ia ib))
    by false is false ia false ib c ic ih =
        ap (λ (t : Bool). is_some (cond t (Some x) (find (is_row_of key) rest))) (ap (λ (t : Bool). not t && bytes_eq x.key key) is ∙ ib) ∙ ih

behind_two : (a b c : Bool) → ((a && not b) && not c) ≡ (a && not (c || b))
behind_two a true true = and_false (a && false) ∙ sym (and_false a)
behind_two true true false = refl
behind_two false true false = refl
behind_two true false true = refl
behind_two false false true = refl
behind_two true false false = refl
behind_two false false false = refl

pub first_of : (a b : Bool) → (a && b) ≡ true → a ≡ true
first_of true b is = refl
first_of false b is = absurd (cc is)

pub clear-clears : {o : State} (k : Bytes) (s : State) → rowed k s.instances ≡ true → Clears o s → Clears o (clear k s)
unfolding clear
clear-clears {o} k s has h = swept-clears _ (clears (record {
  keys = k ∷ f.keys;
  rows = λ key. rows_cleared k key s.instances ∙ ap (λ (b : Bool). b && not (bytes_eq k key)) (f.rows key) ∙ behind_two (rowed key o.instances) (has_text key f.keys) (bytes_eq k key);
  there = λ key is. by key (bytes_eq k key) refl is;
  named = λ all. stay_named k s.entries (f.named all);
  noted = λ all names noted. key_noted k (names_of f.keys ++ names) s.displaced s.entries (f.noted all names noted) (f.named all);
  forgotten_is = f.forgotten_is;
  evicting_is = f.evicting_is;
}))
  where
    f : Cleared o s.entries s.displaced s.instances s.forgotten s.is_evicting
    f = facts_of h

    was : rowed k o.instances ≡ true
    was = first_of (rowed k o.instances) (not (has_text k f.keys)) (sym (f.rows k) ∙ has)

    by : (key : Bytes) (b : Bool) → bytes_eq k key ≡ b → (b || has_text key f.keys) ≡ true → rowed key o.instances ≡ true
    by key true same is = ap (λ (t : Bytes). rowed t o.instances) (sym ((bytes_eq-Decides k key).0 same)) ∙ was
    by key false other is = f.there key is
