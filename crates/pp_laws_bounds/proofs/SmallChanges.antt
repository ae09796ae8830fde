-- What is kept where clients, exchanges and instances are changed, come or go.
use Rattle.std.proofs.Common.{◌≡◌, ◌⊎◌, refl, ℕ, ◌+◌, ◌<◌, ◌≤◌, Bool, true, false, not, ◌==◌, ◌||◌, List, [], ◌∷◌, ◌++◌, map, filter, cond, length, is_some, Option, Some, None, inl, inr, sym, subst, ap, ◌∙◌, le_refl, le_trans, lt_irrefl, arith}
use Rattle.pp_law.specs.Lists.{change, is_this}
use Rattle.pp_law.specs.Stages.{bound_in, bound_of}
use Rattle.pp_law.specs.State.{State, Body, Client, Exchange, Instance}
use Rattle.pp_laws.specs.Numbers.{AreDistinct}
use Rattle.pp_laws.specs.Runs.{IsIn}
use Rattle.pp_laws.proofs.Lists.{changed_at, differ_filter, differ_map, differ_moved, differ_push, in_filter, in_map, in_moved, in_push, moved}
use Rattle.pp_laws.proofs.Sound.{instance_id}
use Rattle.pp_laws.proofs.Tests.{number_same, same_number}
use Rattle.pp_laws_bounds.proofs.Counts.{count-filter, count-push, length-filter, length-map, length-push}
use Rattle.pp_laws_bounds.proofs.Pigeons.{count-made}
use Rattle.pp_laws_bounds.proofs.Small.{As, FactsOf, counts_as_bound, is_row}

-- ---- clients

with_clients : (a : As) (s : State) (clients : List Client) → length clients ≤ length s.clients → FactsOf a s → FactsOf a (record s { clients = clients })
with_clients a s clients le h = record { said = h.said; rests = h.rests; awaits = h.awaits; few_clients = le_trans le h.few_clients; few_bound = h.few_bound; few_rows = h.few_rows; differ = h.differ; given = h.given; expected = h.expected }

pub clients_mapped : (a : As) (s : State) (f : Client → Client) → FactsOf a s → FactsOf a (record s { clients = map f s.clients })
clients_mapped a s f h = with_clients a s (map f s.clients) (subst (λ n. n ≤ length s.clients) (sym (length-map f s.clients)) (le_refl (length s.clients))) h

pub clients_changed : (a : As) (s : State) (p : Client → Bool) (f : Client → Client) → FactsOf a s → FactsOf a (record s { clients = change p f s.clients })
clients_changed a s p f h = clients_mapped a s (changed_at p f) h

pub clients_filtered : (a : As) (s : State) (p : Client → Bool) → FactsOf a s → FactsOf a (record s { clients = filter p s.clients })
clients_filtered a s p h = with_clients a s (filter p s.clients) (length-filter p s.clients) h

pub client_pushed : (a : As) (s : State) (c : Client) (n : ℕ) → length s.clients < 256 → FactsOf a s → FactsOf a (record s { clients = s.clients ++ c ∷ []; top = n })
client_pushed a s c n room h = record {
  said = h.said;
  rests = h.rests;
  awaits = h.awaits;
  few_clients = let e : length (s.clients ++ c ∷ []) ≡ length s.clients + 1 = length-push s.clients c in omega arith;
  few_bound = h.few_bound;
  few_rows = h.few_rows;
  differ = h.differ;
  given = h.given;
  expected = h.expected;
}

-- ---- exchanges

with_exchanges : (a : As) (s : State) (exchanges : List Exchange) → length (filter (counts_as_bound a.expects) exchanges) ≤ length (filter (counts_as_bound a.expects) s.exchanges) → FactsOf a s → FactsOf a (record s { exchanges = exchanges })
with_exchanges a s exchanges le h = record { said = h.said; rests = h.rests; awaits = h.awaits; few_clients = h.few_clients; few_bound = le_trans le h.few_bound; few_rows = h.few_rows; differ = h.differ; given = h.given; expected = h.expected }

pub exchanges_filtered : (a : As) (s : State) (p : Exchange → Bool) → FactsOf a s → FactsOf a (record s { exchanges = filter p s.exchanges })
exchanges_filtered a s p h = with_exchanges a s (filter p s.exchanges) (count-filter (counts_as_bound a.expects) p s.exchanges) h

-- it counts as bound only where it did
abbrev pub NotBound : (Exchange → Exchange) → Type 0
NotBound f = (expects : Option ℕ) (e : Exchange) → counts_as_bound expects (f e) ≡ true → counts_as_bound expects e ≡ true

pub same_body : (f : Exchange → Exchange) → ((e : Exchange) → (f e).number ≡ e.number) → ((e : Exchange) → (f e).body ≡ e.body) → NotBound f
same_body f number body expects e is = sym (ap (λ n. is_some (bound_of (f e)) || is_this n expects) (number e) ∙ ap (λ (b : Body). is_some (bound_in b) || is_this e.number expects) (body e)) ∙ is

pub exchanges_mapped : (a : As) (s : State) (f : Exchange → Exchange) → NotBound f → FactsOf a s → FactsOf a (record s { exchanges = map f s.exchanges })
exchanges_mapped a s f same_one h = with_exchanges a s (map f s.exchanges) (count-made (counts_as_bound a.expects) f s.exchanges (same_one a.expects)) h

pub exchanges_changed : (a : As) (s : State) (p : Exchange → Bool) (f : Exchange → Exchange) → NotBound f → FactsOf a s → FactsOf a (record s { exchanges = change p f s.exchanges })
exchanges_changed a s p f same_one h = exchanges_mapped a s (changed_at p f) (λ expects e. by expects e (p e)) h
  where
    by : (expects : Option ℕ) (e : Exchange) (t : Bool) → counts_as_bound expects (elim t as (λ c. Exchange) [ true ↦ f e | false ↦ e ]) ≡ true → counts_as_bound expects e ≡ true
    by expects e true is = same_one expects e is
    by expects e false is = is

-- the one that is expected may be bound
pub exchange_bound : (a : As) (s : State) (n : ℕ) (f : Exchange → Exchange) → a.expects ≡ Some n → ((e : Exchange) → (f e).number ≡ e.number) → FactsOf a s → FactsOf a (record s { exchanges = change (λ (e : Exchange). e.number == n) f s.exchanges })
exchange_bound a s n f expects number h = with_exchanges a s (change (λ (e : Exchange). e.number == n) f s.exchanges) (count-made (counts_as_bound a.expects) (changed_at (λ (e : Exchange). e.number == n) f) s.exchanges (λ e. by e (e.number == n) refl)) h
  where
    either_way : (b : Bool) → b || true ≡ true
    either_way true = refl
    either_way false = refl

    by : (e : Exchange) (t : Bool) → (e.number == n) ≡ t → counts_as_bound a.expects (elim t as (λ c. Exchange) [ true ↦ f e | false ↦ e ]) ≡ true → counts_as_bound a.expects e ≡ true
    by e true hit is = ap (λ o. is_some (bound_of e) || is_this e.number o) expects ∙ ap (λ m. is_some (bound_of e) || (n == m)) (same_number e.number n hit) ∙ ap (λ t. is_some (bound_of e) || t) (number_same n) ∙ either_way (is_some (bound_of e))
    by e false isnt is = is

pub exchange_pushed : (a : As) (s : State) (e : Exchange) → e.number ≡ s.next_exchange → bound_of e ≡ None → FactsOf a s → FactsOf a (record s { exchanges = s.exchanges ++ e ∷ []; next_exchange = s.next_exchange + 1 })
exchange_pushed a s e number none h = record {
  said = h.said;
  rests = h.rests;
  awaits = h.awaits;
  few_clients = h.few_clients;
  few_bound =
      let pushed : length (filter (counts_as_bound a.expects) (s.exchanges ++ e ∷ [])) ≡ length (filter (counts_as_bound a.expects) s.exchanges) + 0 =
      count-push (counts_as_bound a.expects) s.exchanges e ∙ ap (λ t. length (filter (counts_as_bound a.expects) s.exchanges) + length (cond t (e ∷ []) [])) not_it in
      let few : length (filter (counts_as_bound a.expects) s.exchanges) ≤ 64 = h.few_bound in
      omega arith;
  few_rows = h.few_rows;
  differ = h.differ;
  given = h.given;
  expected = λ n is. let lt : n < s.next_exchange = h.expected n is in omega arith;
}
  where
    not_this : (o : Option ℕ) → a.expects ≡ o → (t : Bool) → is_this e.number o ≡ t → t ≡ false
    not_this None is t eq = sym eq
    not_this (Some n) is true eq =
        let lt : n < s.next_exchange = h.expected n is in
        let hit : n ≡ e.number = same_number n e.number eq in
        absurd (lt_irrefl n (subst (λ m. n < m) (sym (hit ∙ number)) lt))
    not_this (Some n) is false eq = refl

    not_it : counts_as_bound a.expects e ≡ false
    not_it = ap (λ o. is_some o || is_this e.number a.expects) none ∙ not_this a.expects refl (is_this e.number a.expects) refl

-- ---- instances

with_instances : (a : As) (s : State) (instances : List Instance) → length (filter is_row instances) ≤ length (filter is_row s.instances) → AreDistinct (map instance_id instances)
    → ((x : Instance) → IsIn x instances → (y : Instance) × IsIn y s.instances × (x.id ≡ y.id)) → FactsOf a s → FactsOf a (record s { instances = instances })
with_instances a s instances le differ from h = record {
  said = h.said;
  rests = h.rests;
  awaits = h.awaits;
  few_clients = h.few_clients;
  few_bound = h.few_bound;
  few_rows = le_trans le h.few_rows;
  differ = differ;
  given = λ x i. let f = from x i in subst (λ n. n < s.next_instance) (sym f.2) (h.given f.0 f.1);
  expected = h.expected;
}

pub instances_filtered : (a : As) (s : State) (p : Instance → Bool) → FactsOf a s → FactsOf a (record s { instances = filter p s.instances })
instances_filtered a s p h = with_instances a s (filter p s.instances) (count-filter is_row p s.instances) (differ_filter instance_id p s.instances h.differ) (λ x i. (x, (in_filter p x s.instances i).0, refl)) h

pub instances_mapped : (a : As) (s : State) (f : Instance → Instance) → ((x : Instance) → (f x).id ≡ x.id) → ((x : Instance) → is_row (f x) ≡ true → is_row x ≡ true) → FactsOf a s → FactsOf a (record s { instances = map f s.instances })
instances_mapped a s f id row h =
    with_instances a s (map f s.instances) (count-made is_row f s.instances row) (differ_map instance_id f id s.instances h.differ)
    (λ x i. let r = in_map f x s.instances i in (r.was, r.there, ap (λ (y : Instance). y.id) r.is ∙ id r.was)) h

pub instances_changed : (a : As) (s : State) (p : Instance → Bool) (f : Instance → Instance) → ((x : Instance) → (f x).id ≡ x.id) → ((x : Instance) → is_row (f x) ≡ true → is_row x ≡ true) → FactsOf a s → FactsOf a (record s { instances = change p f s.instances })
instances_changed a s p f id row h = instances_mapped a s (changed_at p f) (λ x. id_at x (p x)) (λ x. row_at x (p x)) h
  where
    id_at : (x : Instance) (t : Bool) → (elim t as (λ c. Instance) [ true ↦ f x | false ↦ x ]).id ≡ x.id
    id_at x true = id x
    id_at x false = refl

    row_at : (x : Instance) (t : Bool) → is_row (elim t as (λ c. Instance) [ true ↦ f x | false ↦ x ]) ≡ true → is_row x ≡ true
    row_at x true is = row x is
    row_at x false is = is

count_append : (q : Instance → Bool) (xs ys : List Instance) → length (filter q (xs ++ ys)) ≡ length (filter q xs) + length (filter q ys)
count_append q [] ys = none_more (length (filter q ys))
  where
    none_more : (n : ℕ) → n ≡ 0 + n
    none_more n = omega arith
count_append q (x ∷ xs) ys = by (q x) (count_append q xs ys)
  where
    by : (t : Bool) → length (filter q (xs ++ ys)) ≡ length (filter q xs) + length (filter q ys) → length (cond t (x ∷ filter q (xs ++ ys)) (filter q (xs ++ ys))) ≡ length (cond t (x ∷ filter q xs) (filter q xs)) + length (filter q ys)
    by true e = grind arith
    by false e = e

-- a list in two parts
count_parts : (p q : Instance → Bool) (xs : List Instance) → length (filter q (filter (λ x. not (p x)) xs)) + length (filter q (filter p xs)) ≤ length (filter q xs)
count_parts p q [] = le_refl 0
count_parts p q (x ∷ xs) = by (p x) (q x) refl (count_parts p q xs)
  where
    by : (t u : Bool) → q x ≡ u → length (filter q (filter (λ y. not (p y)) xs)) + length (filter q (filter p xs)) ≤ length (filter q xs)
        → length (filter q (cond (not t) (x ∷ filter (λ y. not (p y)) xs) (filter (λ y. not (p y)) xs))) + length (filter q (cond t (x ∷ filter p xs) (filter p xs))) ≤ length (cond u (x ∷ filter q xs) (filter q xs))
    by true true is le = subst (λ w. length (filter q (filter (λ y. not (p y)) xs)) + length (cond w (x ∷ filter q (filter p xs)) (filter q (filter p xs))) ≤ length (x ∷ filter q xs)) (sym is) (omega arith)
    by true false is le = subst (λ w. length (filter q (filter (λ y. not (p y)) xs)) + length (cond w (x ∷ filter q (filter p xs)) (filter q (filter p xs))) ≤ length (filter q xs)) (sym is) le
    by false true is le = subst (λ w. length (cond w (x ∷ filter q (filter (λ y. not (p y)) xs)) (filter q (filter (λ y. not (p y)) xs))) + length (filter q (filter p xs)) ≤ length (x ∷ filter q xs)) (sym is) (omega arith)
    by false false is le = subst (λ w. length (cond w (x ∷ filter q (filter (λ y. not (p y)) xs)) (filter q (filter (λ y. not (p y)) xs))) + length (filter q (filter p xs)) ≤ length (filter q xs)) (sym is) le

pub instances_moved : (a : As) (s : State) (p : Instance → Bool) → FactsOf a s → FactsOf a (record s { instances = moved p s.instances })
instances_moved a s p h =
    with_instances a s (moved p s.instances) long (differ_moved instance_id p s.instances h.differ) (λ x i. (x, in_moved p x s.instances i, refl)) h
  where
    long : length (filter is_row (moved p s.instances)) ≤ length (filter is_row s.instances)
    long = subst (λ n. n ≤ length (filter is_row s.instances)) (sym (count_append is_row (filter (λ x. not (p x)) s.instances) (filter p s.instances))) (count_parts p is_row s.instances)

pub instance_pushed : (a : As) (s : State) (x : Instance) → x.id ≡ s.next_instance → length (filter is_row s.instances) < 1024 → FactsOf a s → FactsOf a (record s { instances = s.instances ++ x ∷ []; next_instance = s.next_instance + 1 })
instance_pushed a s x id room h = record {
  said = h.said;
  rests = h.rests;
  awaits = h.awaits;
  few_clients = h.few_clients;
  few_bound = h.few_bound;
  few_rows = by (is_row x) refl;
  differ = differ_push instance_id s.instances x h.differ (λ y i is. lt_irrefl y.id (subst (λ n. y.id < n) (sym (is ∙ id)) (h.given y i)));
  given = λ y i. given_by y (in_push y s.instances x i);
  expected = h.expected;
}
  where
    by : (t : Bool) → is_row x ≡ t → length (filter is_row (s.instances ++ x ∷ [])) ≤ 1024
    by true is = let e : length (filter is_row (s.instances ++ x ∷ [])) ≡ length (filter is_row s.instances) + 1 = count-push is_row s.instances x ∙ ap (λ t. length (filter is_row s.instances) + length (cond t (x ∷ []) [])) is in omega arith
    by false is = let e : length (filter is_row (s.instances ++ x ∷ [])) ≡ length (filter is_row s.instances) + 0 = count-push is_row s.instances x ∙ ap (λ t. length (filter is_row s.instances) + length (cond t (x ∷ []) [])) is in omega arith

    given_by : (y : Instance) → IsIn y s.instances ⊎ (y ≡ x) → y.id < s.next_instance + 1
    given_by y (inl i) = let lt : y.id < s.next_instance = h.given y i in omega arith
    given_by y (inr eq) = let e : y.id ≡ s.next_instance = ap (λ (z : Instance). z.id) eq ∙ id in omega arith
