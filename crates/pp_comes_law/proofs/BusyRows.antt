-- Of rows that stand in memory 320 at most are busy: followed, or a body belongs to them.
use Rattle.std.proofs.Common.{◌≡◌, ◌⊎◌, refl, ℕ, ◌+◌, ◌≤◌, Bool, true, false, not, ◌==◌, ◌&&◌, ◌||◌, List, [], ◌∷◌, filter, find, cond, length, is_some, Option, Some, None, option_map, inl, inr, ap, ◌∙◌, le_trans, arith}
use Rattle.std.specs.List.{list_any}
use Rattle.pp_law.specs.Lists.{is_some_with, is_this}
use Rattle.pp_law.specs.Stages.{bound_of, reply_of}
use Rattle.pp_law.specs.State.{State, Bound, Client, Exchange, Instance, Reply}
use Rattle.pp_law.specs.Table.{follows, idle_row, is_bound_to, is_followed, is_idle_row}
use Rattle.pp_laws.specs.Runs.{IsIn}
use Rattle.pp_laws.proofs.Sound.{instance_id}
use Rattle.pp_laws.proofs.Tests.{same_number, second_holds}
use Rattle.pp_laws_bounds.proofs.Counts.{in_filter_of}
use Rattle.pp_laws_bounds.proofs.Pigeons.{count-more, count-or, pigeons}
use Rattle.pp_laws_bounds.proofs.Small.{As, FactsOf, counts_as_bound, is_row}

-- the instance that a client is answered from, and the one that a body belongs to
abbrev source_at : Client → Option ℕ
source_at c = elim (reply_of c) [ None ↦ None | Some r ↦ r.source ]

abbrev bound_at : Exchange → Option ℕ
bound_at e = option_map (λ b. b.instance) (bound_of e)

either : (a b : Bool) → (a || b) ≡ true → (a ≡ true) ⊎ (b ≡ true)
either true b is = inl refl
either false b is = inr is

any_in : {A : Type 0} (p : A → Bool) (xs : List A) → list_any p xs ≡ true → (x : A) × IsIn x xs × (p x ≡ true)
any_in p [] is = absurd (cc is)
any_in {A} p (y ∷ ys) is = by (either (p y) (list_any p ys) is) (any_in p ys)
  where
    by : (p y ≡ true) ⊎ (list_any p ys ≡ true) → (list_any p ys ≡ true → (x : A) × IsIn x ys × (p x ≡ true)) → (x : A) × IsIn x (y ∷ ys) × (p x ≡ true)
    by (inl hit) more = (y, inl refl, hit)
    by (inr rest) more = let r = more rest in (r.0, inr r.1, r.2)

pub this_is : (n : ℕ) (o : Option ℕ) → is_this n o ≡ true → o ≡ Some n
this_is n None is = absurd (cc is)
this_is n (Some m) is = ap (λ k. Some k) (same_number m n is)

follows_it : (id : ℕ) (c : Client) → follows id c ≡ true → source_at c ≡ Some id
follows_it id c is = by (reply_of c) (second_holds (not c.is_closing) (is_some_with (λ r. is_this id r.source) (reply_of c)) is)
  where
    by : (o : Option Reply) → is_some_with (λ (r : Reply). is_this id r.source) o ≡ true → (elim o as (λ x. Option ℕ) [ None ↦ None | Some r ↦ r.source ]) ≡ Some id
    by None at = absurd (cc at)
    by (Some r) at = this_is id r.source at

bound_it : (id : ℕ) (e : Exchange) → is_bound_to id e ≡ true → bound_at e ≡ Some id
bound_it id e is = by (bound_of e) is
  where
    by : (o : Option Bound) → is_some_with (λ (b : Bound). b.instance == id) o ≡ true → option_map (λ (b : Bound). b.instance) o ≡ Some id
    by None at = absurd (cc at)
    by (Some b) at = ap (λ n. Some n) (same_number b.instance id at)

bound_counts : (o : Option ℕ) (id : ℕ) (e : Exchange) → is_bound_to id e ≡ true → counts_as_bound o e ≡ true
bound_counts o id e is = by (bound_of e) is
  where
    by : (b : Option Bound) → is_some_with (λ (x : Bound). x.instance == id) b ≡ true → (is_some b || is_this e.number o) ≡ true
    by None at = absurd (cc at)
    by (Some x) at = refl

-- a row is idle, or followed, or a body belongs to it
abbrev is_busy : State → Instance → Bool
is_busy s x = is_followed s x.id || list_any (is_bound_to x.id) s.exchanges

busy_few : {a : As} (s : State) → FactsOf a s → length (filter (is_busy s) s.instances) ≤ 320
busy_few {a} s h =
    let both : length (filter (is_busy s) s.instances) ≤ length (filter (λ x. is_followed s x.id) s.instances) + length (filter (λ x. list_any (is_bound_to x.id) s.exchanges) s.instances) = count-or (λ x. is_followed s x.id) (λ x. list_any (is_bound_to x.id) s.exchanges) s.instances in
    let one : length (filter (λ (x : Instance). is_followed s x.id) s.instances) ≤ length s.clients = pigeons instance_id source_at (λ (x : Instance). is_followed s x.id) s.instances s.clients h.differ followed in
    let two : length (filter (λ (x : Instance). list_any (is_bound_to x.id) s.exchanges) s.instances) ≤ length (filter (counts_as_bound a.expects) s.exchanges) = pigeons instance_id bound_at (λ (x : Instance). list_any (is_bound_to x.id) s.exchanges) s.instances (filter (counts_as_bound a.expects) s.exchanges) h.differ bound in
    let clients : length s.clients ≤ 256 = h.few_clients in
    let exchanges : length (filter (counts_as_bound a.expects) s.exchanges) ≤ 64 = h.few_bound in
    omega arith
  where
    followed : (x : Instance) → IsIn x s.instances → is_followed s x.id ≡ true → (c : Client) × IsIn c s.clients × (source_at c ≡ Some x.id)
    followed x i is = let r = any_in (follows x.id) s.clients is in (r.0, r.1, follows_it x.id r.0 r.2)

    bound : (x : Instance) → IsIn x s.instances → list_any (is_bound_to x.id) s.exchanges ≡ true → (e : Exchange) × IsIn e (filter (counts_as_bound a.expects) s.exchanges) × (bound_at e ≡ Some x.id)
    bound x i is = let r = any_in (is_bound_to x.id) s.exchanges is in (r.0, in_filter_of (counts_as_bound a.expects) r.0 s.exchanges r.1 (bound_counts a.expects x.id r.0 r.2), bound_it x.id r.0 r.2)

none_found : {A : Type 0} (p : A → Bool) (xs : List A) (x : A) → find p xs ≡ None → IsIn x xs → p x ≡ false
none_found p [] x none i = absurd i
none_found {A} p (y ∷ ys) x none i = by (p y) refl none i (λ found j. none_found p ys x found j)
  where
    by : (t : Bool) → p y ≡ t → cond t (Some y) (find p ys) ≡ None → (x ≡ y) ⊎ IsIn x ys → (find p ys ≡ None → IsIn x ys → p x ≡ false) → p x ≡ false
    by true is found at rest = absurd (cc found)
    by false is found (inl e) rest = ap p e ∙ is
    by false is found (inr j) rest = rest found j

busy_by : (row followed bound : Bool) → (row && not followed && not bound) ≡ false → row ≡ true → (followed || bound) ≡ true
busy_by true true bound is holds = refl
busy_by true false true is holds = refl
busy_by true false false is holds = absurd (cc is)
busy_by false followed bound is holds = absurd (cc holds)

-- where none is idle there are few
pub rows_busy : {a : As} (s : State) → FactsOf a s → idle_row s ≡ None → length (filter is_row s.instances) ≤ 320
rows_busy s h none = le_trans (count-more is_row (is_busy s) s.instances (λ x i row. busy_by (is_row x) (is_followed s x.id) (list_any (is_bound_to x.id) s.exchanges) (none_found (is_idle_row s) s.instances x none i) row)) (busy_few s h)
