-- What is read of the exchanges.
use Rattle.std.proofs.Common.{◌≡◌, ◌≤◌, ◌+◌, refl, sym, subst, ap, ◌∙◌, ℕ, Bool, true, false, not, ◌==◌, ◌&&◌, cond, nat_lt, find, List, [], ◌∷◌, ◌++◌, filter, length, Option, Some, None, option_map, arith}
use Rattle.std.specs.Prelude.{count_by, is_some, slice_get}
use Rattle.pp_cache_law.proofs.Finds.{find_passes, found_counted, none_found, none_passes}
use Rattle.pp_cache_law.proofs.Numbers.{some_is, true_false}
use Rattle.pp_cache_law.proofs.PairLemmas.{count_first, count_joined, found}
use Rattle.pp_cache_law.specs.Pairs.{AreBoth}
use Rattle.pp_flow.specs.Changes.{Exchanges, entry_of, first_of, is_after, without as without_number}
use Rattle.pp_flow.specs.Entries.{is_asked_by, is_number, is_of as is_of_asker}
use Rattle.pp_flow.specs.declared.entry.Entry.{Entry}
use Rattle.pp_law.specs.Closing.{is_of}
use Rattle.pp_law.specs.Connections.{exchange, is_exchange}
use Rattle.pp_law.specs.Lists.{is_some_with, is_this}
use Rattle.pp_law.specs.State.{State, Exchange}
use Rattle.pp_seats_law.specs.Exchanges.{ShowsExchange}
use Rattle.pp_flow_law.specs.Reads.{AskersAreTheLaws, CountsAreTheLaws, EntriesAreTheLaws, LinesAreTheLaws, NextsAreTheLaws, PlacesAreTheLaws, WaitsAreTheLaws, began_behind}
use Rattle.pp_flow_law.specs.Tables.{Leaving, ShowsFlow, has_none, has_place, line_at}
use Rattle.pp_flow_law.proofs.Entries.{count_without, count_without_else, find_without, length_without, none_some, other_way, same_as, same_number}
use Rattle.pp_flow_law.proofs.Standing.{IsShown, counts_same, entry_placed, entry_waiting, few_given, few_placed, few_waiting, is_shown, none_placed, none_waits, placed_has, waits_has}

-- ---- how many there are

first_counted : (e : Exchange) (es : List Exchange) (n : ℕ) (b : Bool) → (e.number == n) ≡ b → count_by (is_exchange n) (e ∷ es) ≡ cond b 1 0 + count_by (is_exchange n) es
first_counted e es n b is = count_first (is_exchange n) e es ∙ ap (λ (t : Bool). cond t 1 0 + count_by (is_exchange n) es) is

-- where as many have each number, and one at most, there are as many
as_many : (es : List Exchange) (xs : List Entry) → ((n : ℕ) → count_by (is_number n) xs ≤ 1) → ((n : ℕ) → count_by (is_number n) xs ≡ count_by (is_exchange n) es) → length xs ≡ length es
as_many [] [] few same = refl
as_many [] (x ∷ xs) few same =
    let one : count_by (is_number x.exchange.number) (x ∷ xs) ≡ 1 + count_by (is_number x.exchange.number) xs =
    count_first (is_number x.exchange.number) x xs ∙ ap (λ (t : Bool). cond t 1 0 + count_by (is_number x.exchange.number) xs) (same_as x.exchange.number x.exchange.number refl) in
    absurd (omega (arith, one, same x.exchange.number, nothing x.exchange.number))
  where
    nothing : (n : ℕ) → count_by (is_exchange n) [] ≡ 0
    nothing n = refl
as_many (e ∷ es) xs few same =
    let one : count_by (is_exchange e.number) (e ∷ es) ≡ 1 + count_by (is_exchange e.number) es = first_counted e es e.number true (same_as e.number e.number refl) in
    let rest : length (without_number e.number xs) ≡ length es =
    as_many es (without_number e.number xs) (λ n. omega (arith, few n, count_without e.number (is_number n) xs)) (λ n. by (n == e.number) n refl) in
    omega (arith, one, rest, few e.number, same e.number, length_without e.number xs (few e.number))
  where
    by : (b : Bool) (n : ℕ) → (n == e.number) ≡ b → count_by (is_number n) (without_number e.number xs) ≡ count_by (is_exchange n) es
    by true n is =
        subst (λ (i : ℕ). count_by (is_number i) (without_number e.number xs) ≡ count_by (is_exchange i) es) (sym (same_number n e.number is))
        (let one : count_by (is_exchange e.number) (e ∷ es) ≡ 1 + count_by (is_exchange e.number) es = first_counted e es e.number true (same_as e.number e.number refl) in
        omega (arith, one, few e.number, same e.number, none_found (is_number e.number) (without_number e.number xs) (find_without e.number xs (few e.number))))
    by false n is =
        let zero : count_by (is_exchange n) (e ∷ es) ≡ 0 + count_by (is_exchange n) es = first_counted e es n false (other_way n e.number is) in
        omega (arith, zero, same n, count_without_else e.number n is xs)

length_joined : (xs ys : List Entry) → length (xs ++ ys) ≡ length xs + length ys
length_joined [] ys = omega arith
length_joined (x ∷ xs) ys = let rest : length (xs ++ ys) ≡ length xs + length ys = length_joined xs ys in omega (arith, rest)

pub counts : CountsAreTheLaws
counts number l f s shows = (
  sym (length_joined f.waiting f.placed)
      ∙ as_many s.exchanges (f.waiting ++ f.placed) shows.once (λ n. count_joined (is_number n) f.waiting f.placed ∙ counts_same number l f s shows n),
  shows.begun,
)

pub entries : EntriesAreTheLaws
entries number l f s shows n = shows.each n

-- ---- whether one has a place

-- one without a place, or with one
placed_else : (number : ℕ → ℕ) (l : Leaving) (f : Exchanges) (s : State) → ShowsFlow number l f s → (n : ℕ) (d : Exchange) → find (is_number n) f.waiting ≡ None → exchange s n ≡ Some d → is_some (find (is_number n) f.placed) ≡ true
placed_else number l f s shows n d none there =
    by (find (is_number n) f.placed) (subst (λ (o : Option Exchange). AreBoth (ShowsExchange number) (first_of None (find (is_number n) f.placed)) o) there (subst (λ (o : Option Entry). AreBoth (ShowsExchange number) (first_of o (find (is_number n) f.placed)) (exchange s n)) none (shows.each n)))
  where
    by : (o : Option Entry) → AreBoth (ShowsExchange number) (first_of None o) (Some d) → is_some o ≡ true
    by None both = absurd both
    by (Some x) both = refl

none_here : (number : ℕ → ℕ) (l : Leaving) (f : Exchanges) (s : State) → ShowsFlow number l f s → (n : ℕ) → exchange s n ≡ None → entry_of n f ≡ None
none_here number l f s shows n none = by (entry_of n f) (subst (λ (o : Option Exchange). AreBoth (ShowsExchange number) (entry_of n f) o) none (shows.each n))
  where
    by : (o : Option Entry) → AreBoth (ShowsExchange number) o None → o ≡ None
    by None both = refl
    by (Some x) both = absurd both

is_not : (b c : Bool) → not b ≡ c → b ≡ not c
is_not true c is = ap not is
is_not false c is = ap not is

record IsTold (f : Exchanges) (n : ℕ) (o : Option Exchange) : Type 0 where
  waits : is_some (find (is_number n) f.waiting) ≡ is_some_with has_none o
  placed : is_some (find (is_number n) f.placed) ≡ is_some_with has_place o

told : (number : ℕ → ℕ) (l : Leaving) (f : Exchanges) (s : State) → ShowsFlow number l f s → (n : ℕ) → IsTold f n (exchange s n)
told number l f s shows n = by (find (is_number n) f.waiting) (find (is_number n) f.placed) (exchange s n) refl refl refl
  where
    by : (u v : Option Entry) (w : Option Exchange) → find (is_number n) f.waiting ≡ u → find (is_number n) f.placed ≡ v → exchange s n ≡ w → IsTold f n w
    by None None None a b c = record { waits = ap (λ (o : Option Entry). is_some o) a; placed = ap (λ (o : Option Entry). is_some o) b }
    by None None (Some d) a b c = let both : true ≡ false = sym (placed_else number l f s shows n d a c) ∙ ap (λ (o : Option Entry). is_some o) b in absurd (true_false both)
    by None (Some x) None a b c = absurd (none_some x (sym (none_here number l f s shows n c) ∙ entry_placed n f x a b))
    by None (Some x) (Some d) a b c =
        let has : has_none d ≡ false = placed_has number l f s shows n x d b c in
        record { waits = ap (λ (o : Option Entry). is_some o) a ∙ sym has; placed = ap (λ (o : Option Entry). is_some o) b ∙ sym (is_not (has_place d) false has) }
    by (Some x) v None a b c = absurd (none_some x (sym (none_here number l f s shows n c) ∙ entry_waiting n f x a))
    by (Some x) v (Some d) a b c =
        let has : has_none d ≡ true = waits_has number l f s shows n x d a c in
        record { waits = ap (λ (o : Option Entry). is_some o) a ∙ sym has; placed = ap (λ (o : Option Entry). is_some o) (none_placed number l f s shows n x a) ∙ sym (is_not (has_place d) true has) }

pub waits : WaitsAreTheLaws
waits number l f s shows n = (told number l f s shows n).waits

pub places : PlacesAreTheLaws
places number l f s shows n = (told number l f s shows n).placed

-- ---- that of a client

-- one that another test finds, where the test holds once
pub found_alone : {A : Type 0} (p q : A → Bool) (xs : List A) (y : A) → find q xs ≡ Some y → p y ≡ true → count_by p xs ≤ 1 → find p xs ≡ Some y
found_alone p q [] y e holds few = absurd (none_some y e)
found_alone {A = A} p q (x ∷ xs) y e holds few = by (p x) (q x) refl e (let f : cond (p x) 1 0 + count_by p xs ≤ 1 = omega (arith, few, count_first p x xs) in f) (λ f less. found_alone p q xs y f holds less)
  where
    by : (b c : Bool) → p x ≡ b → cond c (Some x) (find q xs) ≡ Some y → cond b 1 0 + count_by p xs ≤ 1 → (find q xs ≡ Some y → count_by p xs ≤ 1 → find p xs ≡ Some y) → cond b (Some x) (find p xs) ≡ Some y
    by true true is f less rest = f
    by true false is f less rest = let one : 1 ≤ count_by p xs = found_counted p xs y (rest f (omega (arith, less))) in absurd (omega (arith, one, less))
    by false true is f less rest = absurd (true_false (sym holds ∙ ap p (sym (some_is x y f)) ∙ is))
    by false false is f less rest = rest f (omega (arith, less))

same_asker : (c : ℕ) (o : Option ℕ) → is_of_asker c o ≡ is_this c o
same_asker c None = refl
same_asker c (Some a) = refl

pub its_asker : (number : ℕ → ℕ) (c : ℕ) (x : Entry) (e : Exchange) → ShowsExchange number x e → is_asked_by c x ≡ is_of c e
its_asker number c x e one = ap (λ (o : Option ℕ). is_of_asker c o) one.asker ∙ same_asker c e.asker

-- the entry that is found by its client shows the law's
asked_one : (number : ℕ → ℕ) (l : Leaving) (f : Exchanges) (s : State) → ShowsFlow number l f s → (c : ℕ) (x : Entry) → count_by (is_of c) s.exchanges ≤ 1 → is_asked_by c x ≡ true → entry_of x.exchange.number f ≡ Some x
    → Some x.exchange.number ≡ option_map (λ (e : Exchange). e.number) (find (is_of c) s.exchanges)
asked_one number l f s shows c x few asks here =
    let it : IsShown number s x.exchange.number x = is_shown number l f s shows x.exchange.number x here in
    ap (λ (n : ℕ). Some n) it.shows.number
    ∙ sym (ap (λ (o : Option Exchange). option_map (λ (e : Exchange). e.number) o)
    (found_alone (is_of c) (is_exchange x.exchange.number) s.exchanges it.known it.there (sym (its_asker number c x it.known it.shows) ∙ asks) few))

-- where none is found by its client, the law has none
pub asked_none : (number : ℕ → ℕ) (l : Leaving) (f : Exchanges) (s : State) → ShowsFlow number l f s → (c : ℕ) → find (is_asked_by c) f.waiting ≡ None → find (is_asked_by c) f.placed ≡ None → None ≡ option_map (λ (e : Exchange). e.number) (find (is_of c) s.exchanges)
asked_none number l f s shows c none neither = by (find (is_of c) s.exchanges) refl
  where
    at : (e : Exchange) (u v : Option Entry) → is_of c e ≡ true → find (is_number e.number) f.waiting ≡ u → find (is_number e.number) f.placed ≡ v → AreBoth (ShowsExchange number) (first_of u v) (Some e) → ⊥
    at e None None asks a b both = both
    at e None (Some x) asks a b both = true_false (sym asks ∙ sym (its_asker number c x e both) ∙ none_passes (is_asked_by c) (is_number e.number) f.placed x neither b)
    at e (Some x) v asks a b both = true_false (sym asks ∙ sym (its_asker number c x e both) ∙ none_passes (is_asked_by c) (is_number e.number) f.waiting x none a)

    by : (o : Option Exchange) → find (is_of c) s.exchanges ≡ o → None ≡ option_map (λ (e : Exchange). e.number) o
    by None is = refl
    by (Some e) is =
        absurd
        (at e (find (is_number e.number) f.waiting) (find (is_number e.number) f.placed) (find_passes (is_of c) s.exchanges e is) refl refl
        (subst (λ (o : Option Exchange). AreBoth (ShowsExchange number) (entry_of e.number f) o)
        (found_alone (is_exchange e.number) (is_of c) s.exchanges e is (same_as e.number e.number refl) (few_given number l f s shows e.number)) (shows.each e.number)))

pub askers : AskersAreTheLaws
askers number l f s shows c few = by (find (is_asked_by c) f.waiting) (find (is_asked_by c) f.placed) refl refl
  where
    by : (u v : Option Entry) → find (is_asked_by c) f.waiting ≡ u → find (is_asked_by c) f.placed ≡ v
        → option_map (λ (x : Entry). x.exchange.number) (first_of u v) ≡ option_map (λ (e : Exchange). e.number) (find (is_of c) s.exchanges)
    by None None a b = asked_none number l f s shows c a b
    by None (Some x) a b =
        let here : find (is_number x.exchange.number) f.placed ≡ Some x =
        found_alone (is_number x.exchange.number) (is_asked_by c) f.placed x b (same_as x.exchange.number x.exchange.number refl) (few_placed number l f s shows x.exchange.number) in
        asked_one number l f s shows c x few (find_passes (is_asked_by c) f.placed x b) (entry_placed x.exchange.number f x (none_waits number l f s shows x.exchange.number x here) here)
    by (Some x) v a b =
        let here : find (is_number x.exchange.number) f.waiting ≡ Some x =
        found_alone (is_number x.exchange.number) (is_asked_by c) f.waiting x a (same_as x.exchange.number x.exchange.number refl) (few_waiting number l f s shows x.exchange.number) in
        asked_one number l f s shows c x few (find_passes (is_asked_by c) f.waiting x a) (entry_waiting x.exchange.number f x here)

-- ---- the next without a place

find_kept_by : {A : Type 0} (p q : A → Bool) (xs : List A) → find p (filter q xs) ≡ find (λ x. q x && p x) xs
find_kept_by p q [] = refl
find_kept_by {A = A} p q (x ∷ xs) = by (q x) (find_kept_by p q xs)
  where
    by : (b : Bool) → find p (filter q xs) ≡ find (λ x. q x && p x) xs → find p (cond b (x ∷ filter q xs) (filter q xs)) ≡ cond (b && p x) (Some x) (find (λ x. q x && p x) xs)
    by true rest = ap (λ (o : Option A). cond (p x) (Some x) o) rest
    by false rest = rest

numbers_same : (number : ℕ → ℕ) (u : Option Entry) (v : Option Exchange) → AreBoth (ShowsExchange number) u v → option_map (λ (x : Entry). x.exchange.number) u ≡ option_map (λ (e : Exchange). e.number) v
numbers_same number None None both = refl
numbers_same number None (Some e) both = absurd both
numbers_same number (Some x) None both = absurd both
numbers_same number (Some x) (Some e) both = ap (λ (n : ℕ). Some n) both.number

same_after : (number : ℕ → ℕ) (after : Option ℕ) (x : Entry) (e : Exchange) → ShowsExchange number x e → is_after after x ≡ began_behind after e
same_after number None x e one = refl
same_after number (Some n) x e one = ap (λ (m : ℕ). nat_lt n m) one.number

pub nexts : NextsAreTheLaws
nexts number l f s shows after =
    numbers_same number (find (is_after after) f.waiting) (find (began_behind after) (filter has_none s.exchanges))
    (found (ShowsExchange number) (ShowsExchange number) (is_after after) (began_behind after) f.waiting (filter has_none s.exchanges) (λ x e one. same_after number after x e one) (λ x e one so. one) shows.waiting)
    ∙ ap (λ (o : Option Exchange). option_map (λ (e : Exchange). e.number) o) (find_kept_by (began_behind after) has_none s.exchanges)

-- ---- a line

pub lines : LinesAreTheLaws
lines number l f s shows n index none = ap (λ (ns : List ℕ). slice_get ns index) (shows.lines n ∙ ap (λ (ns : List ℕ). ns ++ line_at s n) none)
