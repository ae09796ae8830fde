-- What is done to rows and chunks keeps the rows few: where as many are there as may be, one of them is idle.
use Rattle.std.proofs.Common.{◌≡◌, ◌⊎◌, refl, ℕ, ◌+◌, ◌<◌, ◌≤◌, nat_lt, Bool, true, false, not, ◌==◌, ◌&&◌, ◌||◌, List, [], ◌∷◌, filter, find, cond, length, is_some, Option, Some, None, option_map, inl, inr, sym, ap, ◌∙◌, le_trans, arith}
use Rattle.std.specs.List.{list_any}
use Rattle.std.proofs.lemmas.List.Sums.{length-filter as counts-as}
use Rattle.pp_fresh.specs.declared.aging.Times.{Times}
use Rattle.pp_text.specs.Fields.{Field}
use Rattle.pp_valid.specs.declared.version.Version.{Version}
use Rattle.pp_law.specs.Chunks.{is_chunk, use_chunk, drop_chunk, note_use}
use Rattle.pp_law.specs.Lists.{Bytes, is_some_with, is_this}
use Rattle.pp_law.specs.Stages.{bound_of, reply_of}
use Rattle.pp_law.specs.State.{State, Bound, Client, Exchange, Instance, Reply}
use Rattle.pp_law.specs.Table.{is_instance, is_row_of, is_left_over, is_followed, follows, is_bound_to, is_idle_row, row_on_disk, row, rows, idle_row, on_instance, forget, swept, clear, mark_row, forget_row, with_room, add_row, make_row, enter}
use Rattle.pp_laws.specs.Runs.{IsIn}
use Rattle.pp_laws.proofs.Lists.{in_find}
use Rattle.pp_laws.proofs.Sound.{instance_id}
use Rattle.pp_laws.proofs.Tests.{below, number_same, same_number, second_holds}
use Rattle.pp_laws_bounds.proofs.Counts.{in_filter_of}
use Rattle.pp_laws_bounds.proofs.Pigeons.{count-more, count-or, count-out, pigeons}
use Rattle.pp_laws_bounds.proofs.Small.{As, FactsOf, Small, counts_as_bound, facts_of, is_row, small}
use Rattle.pp_laws_bounds.proofs.SmallCases.{each_of, when}
use Rattle.pp_laws_bounds.proofs.SmallChanges.{instance_pushed, instances_changed, instances_filtered, instances_moved}

pub on_instance-small : {a : As} (id : ℕ) (f : Instance → Instance) (s : State) → ((x : Instance) → (f x).id ≡ x.id) → ((x : Instance) → is_row (f x) ≡ true → is_row x ≡ true) → Small a s → Small a (on_instance id f s)
unfolding on_instance
on_instance-small {a} id f s kept row_kept h = small (instances_changed a s (is_instance id) f kept row_kept (facts_of h))

pub forget-small : {a : As} (id : ℕ) (s : State) → Small a s → Small a (forget id s)
unfolding forget
forget-small {a} id s h = small (instances_filtered a s (λ x. not (is_instance id x)) (facts_of h))

pub swept-small : {a : As} (s : State) → Small a s → Small a (swept s)
unfolding swept
swept-small {a} s h = small (instances_filtered a s (λ x. not (is_left_over s x)) (facts_of h))

pub clear-small : {a : As} (key : Bytes) (s : State) → Small a s → Small a (clear key s)
unfolding clear
clear-small {a} key s h = swept-small _ (small (instances_changed a s (is_row_of key) (λ x. record x { is_retired = true }) (λ x. refl) (λ x is. absurd (cc is)) (facts_of h)))

pub mark_row-small : {a : As} (id : ℕ) (s : State) → Small a s → Small a (mark_row id s)
unfolding mark_row
mark_row-small {a} id s h = small (instances_moved a s (is_instance id) (facts_of h))

-- ---- one is idle

-- the instance that a client is answered from, and the one that a body belongs to
abbrev source_at : Client → Option ℕ
source_at c = elim (reply_of c) [ None ↦ None | Some r ↦ r.source ]

abbrev bound_at : Exchange → Option ℕ
bound_at e = option_map (λ b. b.instance) (bound_of e)

either : (a b : Bool) → (a || b) ≡ true → (a ≡ true) ⊎ (b ≡ true)
either true b is = inl refl
either false b is = inr is

any_in : {A : Type 0} (p : A → Bool) (xs : List A) → list_any p xs ≡ true → (x : A) × IsIn x xs × (p x ≡ true)
any_in p [] is = absurd (cc is)
any_in {A} p (y ∷ ys) is = by (either (p y) (list_any p ys) is) (any_in p ys)
  where
    by : (p y ≡ true) ⊎ (list_any p ys ≡ true) → (list_any p ys ≡ true → (x : A) × IsIn x ys × (p x ≡ true)) → (x : A) × IsIn x (y ∷ ys) × (p x ≡ true)
    by (inl hit) more = (y, inl refl, hit)
    by (inr rest) more = let r = more rest in (r.0, inr r.1, r.2)

this_is : (n : ℕ) (o : Option ℕ) → is_this n o ≡ true → o ≡ Some n
this_is n None is = absurd (cc is)
this_is n (Some m) is = ap (λ k. Some k) (same_number m n is)

follows_it : (id : ℕ) (c : Client) → follows id c ≡ true → source_at c ≡ Some id
follows_it id c is = by (reply_of c) (second_holds (not c.is_closing) (is_some_with (λ r. is_this id r.source) (reply_of c)) is)
  where
    by : (o : Option Reply) → is_some_with (λ (r : Reply). is_this id r.source) o ≡ true → (elim o as (λ x. Option ℕ) [ None ↦ None | Some r ↦ r.source ]) ≡ Some id
    by None at = absurd (cc at)
    by (Some r) at = this_is id r.source at

bound_it : (id : ℕ) (e : Exchange) → is_bound_to id e ≡ true → bound_at e ≡ Some id
bound_it id e is = by (bound_of e) is
  where
    by : (o : Option Bound) → is_some_with (λ (b : Bound). b.instance == id) o ≡ true → option_map (λ (b : Bound). b.instance) o ≡ Some id
    by None at = absurd (cc at)
    by (Some b) at = ap (λ n. Some n) (same_number b.instance id at)

bound_counts : (o : Option ℕ) (id : ℕ) (e : Exchange) → is_bound_to id e ≡ true → counts_as_bound o e ≡ true
bound_counts o id e is = by (bound_of e) is
  where
    by : (b : Option Bound) → is_some_with (λ (x : Bound). x.instance == id) b ≡ true → (is_some b || is_this e.number o) ≡ true
    by None at = absurd (cc at)
    by (Some x) at = refl

-- a row is idle, or followed, or a body belongs to it
abbrev is_busy : State → Instance → Bool
is_busy s x = is_followed s x.id || list_any (is_bound_to x.id) s.exchanges

busy_few : {a : As} (s : State) → FactsOf a s → length (filter (is_busy s) s.instances) ≤ 320
busy_few {a} s h =
    let both : length (filter (is_busy s) s.instances) ≤ length (filter (λ x. is_followed s x.id) s.instances) + length (filter (λ x. list_any (is_bound_to x.id) s.exchanges) s.instances) = count-or (λ x. is_followed s x.id) (λ x. list_any (is_bound_to x.id) s.exchanges) s.instances in
    let one : length (filter (λ (x : Instance). is_followed s x.id) s.instances) ≤ length s.clients = pigeons instance_id source_at (λ (x : Instance). is_followed s x.id) s.instances s.clients h.differ followed in
    let two : length (filter (λ (x : Instance). list_any (is_bound_to x.id) s.exchanges) s.instances) ≤ length (filter (counts_as_bound a.expects) s.exchanges) = pigeons instance_id bound_at (λ (x : Instance). list_any (is_bound_to x.id) s.exchanges) s.instances (filter (counts_as_bound a.expects) s.exchanges) h.differ bound in
    let clients : length s.clients ≤ 256 = h.few_clients in
    let exchanges : length (filter (counts_as_bound a.expects) s.exchanges) ≤ 64 = h.few_bound in
    omega arith
  where
    followed : (x : Instance) → IsIn x s.instances → is_followed s x.id ≡ true → (c : Client) × IsIn c s.clients × (source_at c ≡ Some x.id)
    followed x i is = let r = any_in (follows x.id) s.clients is in (r.0, r.1, follows_it x.id r.0 r.2)

    bound : (x : Instance) → IsIn x s.instances → list_any (is_bound_to x.id) s.exchanges ≡ true → (e : Exchange) × IsIn e (filter (counts_as_bound a.expects) s.exchanges) × (bound_at e ≡ Some x.id)
    bound x i is = let r = any_in (is_bound_to x.id) s.exchanges is in (r.0, in_filter_of (counts_as_bound a.expects) r.0 s.exchanges r.1 (bound_counts a.expects x.id r.0 r.2), bound_it x.id r.0 r.2)

none_found : {A : Type 0} (p : A → Bool) (xs : List A) (x : A) → find p xs ≡ None → IsIn x xs → p x ≡ false
none_found p [] x none i = absurd i
none_found {A} p (y ∷ ys) x none i = by (p y) refl none i (λ found j. none_found p ys x found j)
  where
    by : (t : Bool) → p y ≡ t → cond t (Some y) (find p ys) ≡ None → (x ≡ y) ⊎ IsIn x ys → (find p ys ≡ None → IsIn x ys → p x ≡ false) → p x ≡ false
    by true is found at rest = absurd (cc found)
    by false is found (inl e) rest = ap p e ∙ is
    by false is found (inr j) rest = rest found j

busy_by : (row followed bound : Bool) → (row && not followed && not bound) ≡ false → row ≡ true → (followed || bound) ≡ true
busy_by true true bound is holds = refl
busy_by true false true is holds = refl
busy_by true false false is holds = absurd (cc is)
busy_by false followed bound is holds = absurd (cc holds)

-- where none is idle there are few
rows_busy : {a : As} (s : State) → FactsOf a s → idle_row s ≡ None → length (filter is_row s.instances) ≤ 320
rows_busy s h none = le_trans (count-more is_row (is_busy s) s.instances (λ x i row. busy_by (is_row x) (is_followed s x.id) (list_any (is_bound_to x.id) s.exchanges) (none_found (is_idle_row s) s.instances x none i) row)) (busy_few s h)

rows_are : (s : State) → rows s ≡ length (filter is_row s.instances)
rows_are s = sym (counts-as is_row s.instances)

-- ---- room for one

abbrev HasRowRoom : State → Type 0
HasRowRoom s = length (filter is_row s.instances) < 1024

forget_row-small : {a : As} (x : Instance) (s : State) → Small a s → Small a (forget_row x s)
unfolding forget_row
forget_row-small x s h = small (facts_of (forget-small x.id s h))

with_room-small : {a : As} (s : State) → Small a s → Small a (with_room s)
unfolding with_room
with_room-small s h = when (nat_lt (rows s) 1024) h (each_of (idle_row s) h (λ x. forget_row-small x s h))

forgotten_room : {a : As} (x : Instance) (s : State) → FactsOf a s → IsIn x s.instances → is_row x ≡ true → HasRowRoom (forget_row x s)
unfolding forget_row forget
forgotten_room x s h i row =
    let out : length (filter is_row (filter (λ y. not (is_instance x.id y)) s.instances)) + 1 ≤ length (filter is_row s.instances) = count-out is_row (λ y. not (is_instance x.id y)) x s.instances i row (ap not (number_same x.id)) in
    let few : length (filter is_row s.instances) ≤ 1024 = h.few_rows in
    omega arith

with_room-room : {a : As} (s : State) → FactsOf a s → HasRowRoom (with_room s)
unfolding with_room
with_room-room s h = by (nat_lt (rows s) 1024) refl
  where
    found : (o : Option Instance) → idle_row s ≡ o → HasRowRoom (elim o as (λ c. State) [ None ↦ s | Some x ↦ forget_row x s ])
    found None none = let few : length (filter is_row s.instances) ≤ 320 = rows_busy s h none in omega arith
    found (Some x) is =
        let there = in_find (is_idle_row s) x s.instances is in
        forgotten_room x s h there.0 (row_of (is_row x) (is_followed s x.id) (list_any (is_bound_to x.id) s.exchanges) there.1)
      where
        row_of : (t u v : Bool) → (t && not u && not v) ≡ true → t ≡ true
        row_of true u v holds = refl
        row_of false u v holds = absurd (cc holds)

    by : (t : Bool) → nat_lt (rows s) 1024 ≡ t → HasRowRoom (elim t as (λ c. State) [ true ↦ s | false ↦ elim (idle_row s) as (λ c. State) [ None ↦ s | Some x ↦ forget_row x s ] ])
    by true is = let lt : rows s < 1024 = below (rows s) 1024 is in let e : rows s ≡ length (filter is_row s.instances) = rows_are s in omega arith
    by false isnt = found (idle_row s) refl

add_row-small : {a : As} (key : Bytes) (version : Version) (fields : List Field) (times : Times) (is_new : Bool) (s : State) → HasRowRoom s → Small a s → Small a (add_row key version fields times is_new s)
unfolding add_row
add_row-small {a} key version fields times is_new s room h = small (instance_pushed a s (record { id = s.next_instance; key = key; version = version; fields = fields; times = times; is_retired = false; is_new = is_new }) refl room (facts_of h))

pub make_row-small : {a : As} (key : Bytes) (version : Version) (fields : List Field) (times : Times) (s : State) → Small a s → Small a (make_row key version fields times s)
unfolding make_row
make_row-small key version fields times s h = let cleared = clear-small key s h in add_row-small key version fields times true (with_room (clear key s)) (with_room-room (clear key s) (facts_of cleared)) (with_room-small (clear key s) cleared)

pub enter-small : {a : As} (key : Bytes) (is_new : Bool) (s : State) → Small a s → Small a (enter key is_new s)
unfolding enter
enter-small key is_new s h = each_of (row s key) (each_of (row_on_disk s key) h (λ e. add_row-small key e.version e.fields e.times is_new (with_room s) (with_room-room s (facts_of h)) (with_room-small s h))) (λ x. h)

pub use_chunk-small : {a : As} (id i : ℕ) (s : State) → Small a s → Small a (use_chunk id i s)
unfolding use_chunk
use_chunk-small id i s h = each_of (find (is_chunk id i) s.chunks) h (λ c. small (facts_of h))

pub drop_chunk-small : {a : As} (id i : ℕ) (s : State) → Small a s → Small a (drop_chunk id i s)
unfolding drop_chunk
drop_chunk-small id i s h = small (facts_of h)

pub note_use-small : {a : As} (s : State) → Small a s → Small a (note_use s)
unfolding note_use
note_use-small s h = small (facts_of h)
