-- The row that has to leave for a decision did not come in this turn.
use Rattle.std.proofs.Common.{◌≡◌, ◌⊎◌, inl, inr, refl, sym, ap, ◌∙◌, ℕ, ◌+◌, ◌≤◌, Bool, true, false, not, ◌&&◌, ◌||◌, ◌==◌, nat_lt, cond, filter, find, length, List, [], ◌∷◌, Option, Some, None, option_map, arith}
use Rattle.std.proofs.lemmas.Bool.Decides.{nat_tests}
use Rattle.std.proofs.lemmas.List.Sums.{length-filter as counts-as}
use Rattle.std.specs.List.{list_any}
use Rattle.std.specs.Prelude.{is_some}
use Rattle.pp_cache_law.proofs.Numbers.{some_is}
use Rattle.pp_law.specs.Connections.{client}
use Rattle.pp_law.specs.Deciding.{has_to_forget}
use Rattle.pp_law.specs.Due.{Due, Decide, CutOff, first_due}
use Rattle.pp_law.specs.Leaving.{forgets_next}
use Rattle.pp_law.specs.Lists.{is_some_with, is_this}
use Rattle.pp_law.specs.Requests.{key_in}
use Rattle.pp_law.specs.Stages.{bound_of, reply_of}
use Rattle.pp_law.specs.State.{State, Bound, Client, Exchange, Instance, Reply}
use Rattle.pp_law.specs.Table.{follows, idle_row, is_bound_to, is_followed, is_idle_row, must_forget, row, row_on_disk, rows}
use Rattle.pp_laws.proofs.Sound.{instance_id}
use Rattle.pp_laws.proofs.Tests.{same_number, second_holds}
use Rattle.pp_laws.specs.Runs.{IsIn}
use Rattle.pp_laws_bounds.proofs.Counts.{in_filter_of}
use Rattle.pp_laws_bounds.proofs.Pigeons.{count-or, pigeons}
use Rattle.pp_laws_bounds.specs.Bounds.{belongs_to_row}
use Rattle.pp_laws_turn.specs.SoundTurn.{IsSoundTurn}
use Rattle.pp_target.specs.Key.{Key, text_of}
use Rattle.pp_rests_law.specs.Late.{HasFewLate, is_row, since_new}

-- ---- what is followed, or has a body that comes

-- the instance that a client is answered from, and the one that a body belongs to
abbrev source_at : Client → Option ℕ
source_at c = elim (reply_of c) [ None ↦ None | Some r ↦ r.source ]

abbrev bound_at : Exchange → Option ℕ
bound_at e = option_map (λ b. b.instance) (bound_of e)

either : (a b : Bool) → (a || b) ≡ true → (a ≡ true) ⊎ (b ≡ true)
either true b is = inl refl
either false b is = inr is

any_in : {A : Type 0} (p : A → Bool) (xs : List A) → list_any p xs ≡ true → (x : A) × IsIn x xs × (p x ≡ true)
any_in p [] is = absurd (cc is)
any_in {A} p (y ∷ ys) is = by (either (p y) (list_any p ys) is) (any_in p ys)
  where
    by : (p y ≡ true) ⊎ (list_any p ys ≡ true) → (list_any p ys ≡ true → (x : A) × IsIn x ys × (p x ≡ true)) → (x : A) × IsIn x (y ∷ ys) × (p x ≡ true)
    by (inl hit) more = (y, inl refl, hit)
    by (inr rest) more = let r = more rest in (r.0, inr r.1, r.2)

this_is : (n : ℕ) (o : Option ℕ) → is_this n o ≡ true → o ≡ Some n
this_is n None is = absurd (cc is)
this_is n (Some m) is = ap (λ k. Some k) (same_number m n is)

follows_it : (id : ℕ) (c : Client) → follows id c ≡ true → source_at c ≡ Some id
follows_it id c is = by (reply_of c) (second_holds (not c.is_closing) (is_some_with (λ r. is_this id r.source) (reply_of c)) is)
  where
    by : (o : Option Reply) → is_some_with (λ (r : Reply). is_this id r.source) o ≡ true → (elim o as (λ x. Option ℕ) [ None ↦ None | Some r ↦ r.source ]) ≡ Some id
    by None at = absurd (cc at)
    by (Some r) at = this_is id r.source at

bound_it : (id : ℕ) (e : Exchange) → is_bound_to id e ≡ true → bound_at e ≡ Some id
bound_it id e is = by (bound_of e) is
  where
    by : (o : Option Bound) → is_some_with (λ (b : Bound). b.instance == id) o ≡ true → option_map (λ (b : Bound). b.instance) o ≡ Some id
    by None at = absurd (cc at)
    by (Some b) at = ap (λ n. Some n) (same_number b.instance id at)

bound_belongs : (id : ℕ) (e : Exchange) → is_bound_to id e ≡ true → belongs_to_row e ≡ true
bound_belongs id e is = by (bound_of e) is
  where
    by : (b : Option Bound) → is_some_with (λ (x : Bound). x.instance == id) b ≡ true → is_some b ≡ true
    by None at = absurd (cc at)
    by (Some x) at = refl

abbrev is_busy : State → Instance → Bool
is_busy s x = is_followed s x.id || list_any (is_bound_to x.id) s.exchanges

busy_few : (s : State) → IsSoundTurn s → length (filter (is_busy s) s.instances) ≤ 320
busy_few s sound =
    let both : length (filter (is_busy s) s.instances) ≤ length (filter (λ x. is_followed s x.id) s.instances) + length (filter (λ x. list_any (is_bound_to x.id) s.exchanges) s.instances) = count-or (λ x. is_followed s x.id) (λ x. list_any (is_bound_to x.id) s.exchanges) s.instances in
    let one : length (filter (λ (x : Instance). is_followed s x.id) s.instances) ≤ length s.clients = pigeons instance_id source_at (λ (x : Instance). is_followed s x.id) s.instances s.clients sound.numbers.instances_differ followed in
    let two : length (filter (λ (x : Instance). list_any (is_bound_to x.id) s.exchanges) s.instances) ≤ length (filter belongs_to_row s.exchanges) = pigeons instance_id bound_at (λ (x : Instance). list_any (is_bound_to x.id) s.exchanges) s.instances (filter belongs_to_row s.exchanges) sound.numbers.instances_differ bound in
    let clients : length s.clients ≤ 256 = sound.bounded.clients in
    let exchanges : length (filter belongs_to_row s.exchanges) ≤ 64 = sound.bounded.bodies in
    omega arith
  where
    followed : (x : Instance) → IsIn x s.instances → is_followed s x.id ≡ true → (c : Client) × IsIn c s.clients × (source_at c ≡ Some x.id)
    followed x i is = let r = any_in (follows x.id) s.clients is in (r.0, r.1, follows_it x.id r.0 r.2)

    bound : (x : Instance) → IsIn x s.instances → list_any (is_bound_to x.id) s.exchanges ≡ true → (e : Exchange) × IsIn e (filter belongs_to_row s.exchanges) × (bound_at e ≡ Some x.id)
    bound x i is = let r = any_in (is_bound_to x.id) s.exchanges is in (r.0, in_filter_of belongs_to_row r.0 s.exchanges r.1 (bound_belongs x.id r.0 r.2), bound_it x.id r.0 r.2)

busy_by : (row followed bound : Bool) → (row && not followed && not bound) ≡ false → row ≡ true → (followed || bound) ≡ true
busy_by true true bound is holds = refl
busy_by true false true is holds = refl
busy_by true false false is holds = absurd (cc is)
busy_by false followed bound is holds = absurd (cc holds)

-- ---- where the first that is idle is new, each row is busy, or stands there or behind it

more : (y : Instance) (xs ys : List Instance) (k : ℕ) (r b : Bool) → (r ≡ true → b ≡ true) → length xs ≤ length ys + k → length (cond r (y ∷ xs) xs) ≤ length (cond b (y ∷ ys) ys) + k
more y xs ys k true true so le = omega arith
more y xs ys k true false so le = let both : false ≡ true = so refl in absurd (cc both)
more y xs ys k false true so le = omega arith
more y xs ys k false false so le = le

late_or_busy : (idle busy : Instance → Bool) (xs : List Instance) (x : Instance) → ((y : Instance) → is_row y ≡ true → idle y ≡ false → busy y ≡ true) → find idle xs ≡ Some x → x.is_new ≡ true
    → length (filter is_row xs) ≤ length (filter busy xs) + length (filter is_row (since_new xs))
late_or_busy idle busy [] x cover found new = absurd (cc found)
late_or_busy idle busy (y ∷ ys) x cover found new = by (idle y) y.is_new refl refl found (λ rest. late_or_busy idle busy ys x cover rest new)
  where
    all : length (filter is_row (y ∷ ys)) ≤ length (filter busy (y ∷ ys)) + length (filter is_row (y ∷ ys))
    all = omega arith

    by : (i n : Bool) → idle y ≡ i → y.is_new ≡ n → cond i (Some y) (find idle ys) ≡ Some x → (find idle ys ≡ Some x → length (filter is_row ys) ≤ length (filter busy ys) + length (filter is_row (since_new ys)))
        → length (filter is_row (y ∷ ys)) ≤ length (filter busy (y ∷ ys)) + length (filter is_row (elim n as (λ t. List Instance) [ true ↦ y ∷ ys | false ↦ since_new ys ]))
    by i true is isnew at rest = all
    by true false is isnt at rest = let both : true ≡ false = sym new ∙ ap (λ (z : Instance). z.is_new) (sym (some_is y x at)) ∙ isnt in absurd (cc both)
    by false false is isnt at rest = more y (filter is_row ys) (filter busy ys) (length (filter is_row (since_new ys))) (is_row y) (busy y) (λ holds. cover y holds is) (rest at)

-- ---- a row has to leave where there are 1,024

full_for : (s : State) (o : Option Key) → is_some_with (λ key. must_forget s (text_of key)) o ≡ true → nat_lt (rows s) 1024 ≡ false
full_for s None must = absurd (cc must)
full_for s (Some key) must = by (is_some (row s (text_of key))) (is_some (row_on_disk s (text_of key))) (nat_lt (rows s) 1024) (is_some (idle_row s)) must
  where
    by : (a b full d : Bool) → (not a && b && not full && d) ≡ true → full ≡ false
    by a b false d is = refl
    by true b true d is = absurd (cc is)
    by false true true d is = absurd (cc is)
    by false false true d is = absurd (cc is)

full_by : (s : State) (o : Option Due) → forgets_next s o ≡ true → nat_lt (rows s) 1024 ≡ false
full_by s None must = absurd (cc must)
full_by s (Some (CutOff n cause)) must = absurd (cc must)
full_by s (Some (Decide n i d)) must = by (client s n) must
  where
    by : (o : Option Client) → is_some_with (has_to_forget s) o ≡ true → nat_lt (rows s) 1024 ≡ false
    by None is = absurd (cc is)
    by (Some c) is = full_for s (key_in c.front) is

at_least : (n : ℕ) → nat_lt n 1024 ≡ false → 1024 ≤ n
at_least n full = grind (arith, nat_tests, full)

pub old : (s : State) → IsSoundTurn s → HasFewLate s → (x : Instance) → forgets_next s (first_due s) ≡ true → idle_row s ≡ Some x → x.is_new ≡ false
old s sound few x must next = by x.is_new refl
  where
    by : (b : Bool) → x.is_new ≡ b → x.is_new ≡ false
    by false is = is
    by true is =
        let full : 1024 ≤ rows s = at_least (rows s) (full_by s (first_due s) must) in
        let all : length (filter is_row s.instances) ≡ rows s = counts-as is_row s.instances in
        let busy : length (filter (is_busy s) s.instances) ≤ 320 = busy_few s sound in
        let late : length (filter is_row (since_new s.instances)) ≤ 264 = subst_late few in
        let both : length (filter is_row s.instances) ≤ length (filter (is_busy s) s.instances) + length (filter is_row (since_new s.instances)) =
        late_or_busy (is_idle_row s) (is_busy s) s.instances x (λ y holds idle. busy_by (is_row y) (is_followed s y.id) (list_any (is_bound_to y.id) s.exchanges) idle holds) next is in
        absurd (omega (arith, full, all, busy, late, both))
      where
        subst_late : HasFewLate s → length (filter is_row (since_new s.instances)) ≤ 264
        subst_late h = omega (arith, counts-as is_row (since_new s.instances), h)
