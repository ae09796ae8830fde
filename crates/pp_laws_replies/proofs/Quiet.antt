-- What happens to clients without a word of their replies, and to the instances that they are read from.
use Rattle.std.proofs.Common.{◌≡◌, ◌⊎◌, refl, ℕ, ◌+◌, ◌≤◌, Bool, true, false, List, [], ◌∷◌, ◌++◌, map, filter, inl, inr, sym, subst, ap, ◌∙◌, le_refl, arith}
use Rattle.pp_law.specs.Lists.{change}
use Rattle.pp_law.specs.State.{State, Client, Instance}
use Rattle.pp_laws.specs.Runs.{IsIn}
use Rattle.pp_laws.proofs.Lists.{Changed, From, changed_at, in_change, in_filter, in_map, in_moved, in_push, map_kept, moved, other, same}
use Rattle.pp_laws.proofs.Sound.{client_number}
use Rattle.pp_laws_replies.proofs.HeardPlaces.{Reads, again, still}

-- ---- a client

-- its request, its number, the decision for it, whether its reply closes, and what is left to say of its interim answer are the same
pub record Quiet (d c : Client) : Type 0 where
  pub number : d.number ≡ c.number
  pub index : d.index ≡ c.index
  pub front : d.front ≡ c.front
  pub stage : d.stage ≡ c.stage
  pub interim : d.interim_left ≡ c.interim_left
  pub closes : d.closes ≡ c.closes
  pub reads : Reads d c

pub still_same : (c : Client) → Quiet c c
still_same c = record { number = refl; index = refl; front = refl; stage = refl; interim = refl; closes = refl; reads = still c c refl refl refl }

quiet_on : (e d c : Client) → Quiet e d → Quiet d c → Quiet e c
quiet_on e d c one two = record {
  number = one.number ∙ two.number;
  index = one.index ∙ two.index;
  front = one.front ∙ two.front;
  stage = one.stage ∙ two.stage;
  interim = one.interim ∙ two.interim;
  closes = one.closes ∙ two.closes;
  reads = again e d c one.reads two.reads;
}

pub record FromClient (clients : List Client) (d : Client) : Type 0 where
  pub was : Client
  pub there : IsIn was clients
  pub is : Quiet d was

-- ---- an instance

pub data FromRow (instances : List Instance) (next_instance : ℕ) (x : Instance) : Type 0 where
  old_row : (y : Instance) → IsIn y instances → x.id ≡ y.id → x.version ≡ y.version → FromRow instances next_instance x
  new_row : next_instance ≤ x.id → FromRow instances next_instance x

pub record SameRow (x y : Instance) : Type 0 where
  pub id : x.id ≡ y.id
  pub version : x.version ≡ y.version

-- ---- a state

pub record Facts (o : State) (clients : List Client) (instances : List Instance) (next_instance greatest : ℕ) : Type 0 where
  pub numbers : map client_number clients ≡ map client_number o.clients
  pub clients_from : (d : Client) → IsIn d clients → FromClient o.clients d
  pub rows_from : (x : Instance) → IsIn x instances → FromRow o.instances o.next_instance x
  pub next : o.next_instance ≤ next_instance
  pub top : o.top ≤ greatest

abbrev pub FactsOf : State → State → Type 0
FactsOf o s = Facts o s.clients s.instances s.next_instance s.top

-- from the first state on, nothing was said, heard or decided
pub data Quietly (o s : State) : Type 0 where
  quietly : FactsOf o s → Quietly o s

pub facts_of : {o s : State} → Quietly o s → FactsOf o s
facts_of (quietly facts) = facts

pub quiet_same : (s : State) → Quietly s s
quiet_same s = quietly (record { numbers = refl; clients_from = λ d i. record { was = d; there = i; is = still_same d }; rows_from = λ x i. old_row x i refl refl; next = le_refl s.next_instance; top = le_refl s.top })

-- ---- what becomes of clients

kept_numbers : (f : Client → Client) → ((c : Client) → Quiet (f c) c) → (cs : List Client) → map client_number (map f cs) ≡ map client_number cs
kept_numbers f kept cs = map_kept client_number f (λ c. (kept c).number) cs

from_on : (o : List Client) (d c : Client) → Quiet d c → FromClient o c → FromClient o d
from_on o d c one two = record { was = two.was; there = two.there; is = quiet_on d c two.was one two.is }

pub clients_mapped : (o s : State) (f : Client → Client) → ((c : Client) → Quiet (f c) c) → FactsOf o s → FactsOf o (record s { clients = map f s.clients })
clients_mapped o s f kept h = record {
  numbers = kept_numbers f kept s.clients ∙ h.numbers;
  clients_from = λ d i. by d (in_map f d s.clients i);
  rows_from = h.rows_from;
  next = h.next;
  top = h.top;
}
  where
    by : (d : Client) → From f s.clients d → FromClient o.clients d
    by d r = from_on o.clients d r.was (subst (λ (x : Client). Quiet x r.was) (sym r.is) (kept r.was)) (h.clients_from r.was r.there)

quiet_at : (p : Client → Bool) (f : Client → Client) → ((c : Client) → p c ≡ true → Quiet (f c) c) → (c : Client) (t : Bool) → p c ≡ t → Quiet (elim t as (λ x. Client) [ true ↦ f c | false ↦ c ]) c
quiet_at p f kept c true is = kept c is
quiet_at p f kept c false is = still_same c

pub clients_changed : (o s : State) (p : Client → Bool) (f : Client → Client) → ((c : Client) → p c ≡ true → Quiet (f c) c) → FactsOf o s → FactsOf o (record s { clients = change p f s.clients })
clients_changed o s p f kept h = clients_mapped o s (changed_at p f) (λ c. quiet_at p f kept c (p c) refl) h

-- where it is of use that they are there
pub clients_changed_in : (o s : State) (p : Client → Bool) (f : Client → Client) → ((c : Client) → (f c).number ≡ c.number) → ((c : Client) → IsIn c s.clients → p c ≡ true → Quiet (f c) c) → FactsOf o s
    → FactsOf o (record s { clients = change p f s.clients })
clients_changed_in o s p f number kept h = record {
  numbers = map_kept client_number (changed_at p f) (λ c. number_at c (p c)) s.clients ∙ h.numbers;
  clients_from = λ d i. by d (in_change p f d s.clients i);
  rows_from = h.rows_from;
  next = h.next;
  top = h.top;
}
  where
    number_at : (c : Client) (t : Bool) → (elim t as (λ x. Client) [ true ↦ f c | false ↦ c ]).number ≡ c.number
    number_at c true = number c
    number_at c false = refl

    by : (d : Client) → Changed p f s.clients d → FromClient o.clients d
    by d (same i isnt) = h.clients_from d i
    by d (other c i hit eq) = from_on o.clients d c (subst (λ (x : Client). Quiet x c) (sym eq) (kept c i hit)) (h.clients_from c i)

-- ---- what becomes of instances

with_rows : (o s : State) (instances : List Instance) → ((x : Instance) → IsIn x instances → FromRow o.instances o.next_instance x) → FactsOf o s → FactsOf o (record s { instances = instances })
with_rows o s instances from h = record { numbers = h.numbers; clients_from = h.clients_from; rows_from = from; next = h.next; top = h.top }

pub rows_filtered : (o s : State) (p : Instance → Bool) → FactsOf o s → FactsOf o (record s { instances = filter p s.instances })
rows_filtered o s p h = with_rows o s (filter p s.instances) (λ x i. h.rows_from x (in_filter p x s.instances i).0) h

pub rows_moved : (o s : State) (p : Instance → Bool) → FactsOf o s → FactsOf o (record s { instances = moved p s.instances })
rows_moved o s p h = with_rows o s (moved p s.instances) (λ x i. h.rows_from x (in_moved p x s.instances i)) h

row_on : (instances : List Instance) (n : ℕ) (x y : Instance) → SameRow x y → FromRow instances n y → FromRow instances n x
row_on instances n x y kept (old_row z i id version) = old_row z i (kept.id ∙ id) (kept.version ∙ version)
row_on instances n x y kept (new_row le) = new_row (subst (λ m. n ≤ m) (sym kept.id) le)

pub rows_mapped : (o s : State) (f : Instance → Instance) → ((x : Instance) → SameRow (f x) x) → FactsOf o s → FactsOf o (record s { instances = map f s.instances })
rows_mapped o s f kept h = with_rows o s (map f s.instances) (λ x i. by x (in_map f x s.instances i)) h
  where
    by : (x : Instance) → From f s.instances x → FromRow o.instances o.next_instance x
    by x r = row_on o.instances o.next_instance x r.was (subst (λ (y : Instance). SameRow y r.was) (sym r.is) (kept r.was)) (h.rows_from r.was r.there)

row_at : (p : Instance → Bool) (f : Instance → Instance) → ((x : Instance) → SameRow (f x) x) → (x : Instance) (t : Bool) → SameRow (elim t as (λ y. Instance) [ true ↦ f x | false ↦ x ]) x
row_at p f kept x true = kept x
row_at p f kept x false = record { id = refl; version = refl }

pub rows_changed : (o s : State) (p : Instance → Bool) (f : Instance → Instance) → ((x : Instance) → SameRow (f x) x) → FactsOf o s → FactsOf o (record s { instances = change p f s.instances })
rows_changed o s p f kept h = rows_mapped o s (changed_at p f) (λ x. row_at p f kept x (p x)) h

-- a new one has the number that is next
pub row_pushed : (o s : State) (x : Instance) → x.id ≡ s.next_instance → FactsOf o s → FactsOf o (record s { instances = s.instances ++ x ∷ []; next_instance = s.next_instance + 1 })
row_pushed o s x id h = record { numbers = h.numbers; clients_from = h.clients_from; rows_from = λ y i. by y (in_push y s.instances x i); next = let le : o.next_instance ≤ s.next_instance = h.next in omega arith; top = h.top }
  where
    by : (y : Instance) → IsIn y s.instances ⊎ (y ≡ x) → FromRow o.instances o.next_instance y
    by y (inl i) = h.rows_from y i
    by y (inr e) = new_row (subst (λ n. o.next_instance ≤ n) (sym (ap (λ (z : Instance). z.id) e ∙ id)) h.next)
