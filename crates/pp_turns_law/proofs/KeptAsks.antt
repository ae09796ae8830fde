-- What a client that asks for what it lacks leaves of the law's state: each request has one exchange at most still, and there is one more.
use Rattle.std.proofs.Common.{◌≡◌, ◌≤◌, refl, sym, subst, ap, ap₂, ◌∙◌, ℕ, ◌+◌, Bool, true, false, not, ◌||◌, ◌==◌, cond, find, List, [], ◌∷◌, ◌++◌, length, Some, None, Option, option_map, arith}
use Rattle.std.specs.Prelude.{count_by, is_some}
use Rattle.std.specs.List.{list_any}
use Rattle.pp_cache_law.proofs.Finds.{find_mapped}
use Rattle.pp_cache_law.proofs.Numbers.{is_same, some_is}
use Rattle.pp_cache_law.proofs.PairLemmas.{count_first, count_joined}
use Rattle.pp_flow_law.proofs.Entries.{none_some}
use Rattle.pp_law.specs.Closing.{forsake, is_of, is_over, leave, left_alone}
use Rattle.pp_law.specs.Connections.{is_client, on_client}
use Rattle.pp_law.specs.Deciding.{add_exchange, begin_exchange}
use Rattle.pp_law.specs.Lists.{change, is_some_with, is_this, without}
use Rattle.pp_law.specs.State.{State, AskTooLong, Client, Exchange}
use Rattle.pp_seats_law.specs.Fates.{is_refused}
use Rattle.pp_states_law.specs.Decisions.{AreApart, AsksOnce}

-- ---- those of the others

abbrev left_if : Exchange → Bool → Exchange
left_if e b = elim b as (λ t. Exchange) [ true ↦ left_alone e | false ↦ e ]

abbrev others : ℕ → List Exchange → List Exchange
others c es = without is_over (change (is_of c) left_alone es)

few : (n c : ℕ) (es : List Exchange) → count_by (is_of n) (others c es) ≤ count_by (is_of n) es
few n c [] = omega arith
few n c (e ∷ es) = by (is_of c e) (is_over (left_if e (is_of c e))) (few n c es) (count_first (is_of n) e es)
  where
    by : (b over : Bool) → count_by (is_of n) (others c es) ≤ count_by (is_of n) es → count_by (is_of n) (e ∷ es) ≡ cond (is_of n e) 1 0 + count_by (is_of n) es
        → count_by (is_of n) (cond (not over) (left_if e b ∷ others c es) (others c es)) ≤ count_by (is_of n) (e ∷ es)
    by b true less first = omega (arith, less, first)
    by true false less first = omega (arith, less, first, count_first (is_of n) (left_alone e) (others c es))
    by false false less first = omega (arith, less, first, count_first (is_of n) e (others c es))

none_of : (c : ℕ) (es : List Exchange) → count_by (is_of c) (others c es) ≡ 0
none_of c [] = refl
none_of c (e ∷ es) = by (is_of c e) (is_over (left_if e (is_of c e))) refl (none_of c es)
  where
    by : (b over : Bool) → is_of c e ≡ b → count_by (is_of c) (others c es) ≡ 0 → count_by (is_of c) (cond (not over) (left_if e b ∷ others c es) (others c es)) ≡ 0
    by b true is none = none
    by true false is none = omega (arith, none, count_first (is_of c) (left_alone e) (others c es))
    by false false is none = count_first (is_of c) e (others c es) ∙ ap₂ (λ (t : Bool) (n : ℕ). cond t 1 0 + n) is none

none_over : (c : ℕ) (es : List Exchange) → list_any is_over (others c es) ≡ false
none_over c [] = refl
none_over c (e ∷ es) = by (left_if e (is_of c e)) (is_over (left_if e (is_of c e))) refl (none_over c es)
  where
    by : (d : Exchange) (over : Bool) → is_over d ≡ over → list_any is_over (others c es) ≡ false → list_any is_over (cond (not over) (d ∷ others c es) (others c es)) ≡ false
    by d true is none = none
    by d false is none = ap (λ (t : Bool). t || list_any is_over (others c es)) is ∙ none

no_longer : (c : ℕ) (es : List Exchange) → length (others c es) ≤ length es
no_longer c [] = omega arith
no_longer c (e ∷ es) = by (left_if e (is_of c e)) (is_over (left_if e (is_of c e))) (no_longer c es)
  where
    by : (d : Exchange) (over : Bool) → length (others c es) ≤ length es → length (cond (not over) (d ∷ others c es) (others c es)) ≤ length (e ∷ es)
    by d true less = omega (arith, less)
    by d false less = omega (arith, less)

none_joined : (xs : List Exchange) (e : Exchange) → list_any is_over xs ≡ false → is_over e ≡ false → list_any is_over (xs ++ e ∷ []) ≡ false
none_joined [] e none isnt = ap (λ (t : Bool). t || false) isnt
none_joined (x ∷ xs) e none isnt = by (is_over x) none (λ rest. none_joined xs e rest isnt)
  where
    by : (b : Bool) → (b || list_any is_over xs) ≡ false → (list_any is_over xs ≡ false → list_any is_over (xs ++ e ∷ []) ≡ false) → (b || list_any is_over (xs ++ e ∷ [])) ≡ false
    by true any rest = absurd (cc any)
    by false any rest = rest any

length_joined : (xs : List Exchange) (e : Exchange) → length (xs ++ e ∷ []) ≡ length xs + 1
length_joined [] e = omega arith
length_joined (x ∷ xs) e = let rest : length (xs ++ e ∷ []) ≡ length xs + 1 = length_joined xs e in omega (arith, rest)

-- ---- what is left as it was

-- a client that was there, but for its course
pub record WasClient (s : State) (m : ℕ) (c : Client) : Type 0 where
  pub before : Client
  pub there : find (is_client m) s.clients ≡ Some before
  pub same : c ≡ record before { course = c.course }
  pub given : is_refused before.course ≡ false → is_refused c.course ≡ false

-- at most one exchange more
pub record HasOneMore (s t : State) : Type 0 where
  pub exchanges : length t.exchanges ≤ length s.exchanges + 1
  pub next : t.next_exchange ≤ s.next_exchange + 1
  pub asks : (n : ℕ) → AsksOnce n s → AsksOnce n t
  pub rest : t ≡ record s { clients = t.clients; exchanges = t.exchanges; next_exchange = t.next_exchange }
  pub client : (m : ℕ) (c : Client) → find (is_client m) t.clients ≡ Some c → WasClient s m c

itself : (s : State) (m : ℕ) (c : Client) → find (is_client m) s.clients ≡ Some c → WasClient s m c
itself s m c there = record { before = c; there = there; same = refl; given = λ given. given }

pub none_more : (s : State) → HasOneMore s s
none_more s = record { exchanges = omega arith; next = omega arith; asks = λ n once. once; rest = refl; client = itself s }

-- ---- one begins

abbrev behind : Exchange → State → Option ℕ → List Exchange
behind e s asker = without is_over (change (λ x. is_some_with (λ n. is_of n x) asker) left_alone s.exchanges) ++ e ∷ []

begun : (e : Exchange) (c : ℕ) (s : State) → e.asker ≡ Some c → (begin_exchange e s).exchanges ≡ others c s.exchanges ++ e ∷ []
unfolding begin_exchange add_exchange leave forsake
begun e c s asks = ap (λ (asker : Option ℕ). behind e s asker) asks

same_shape : (e : Exchange) (s : State) → begin_exchange e s ≡ record s { clients = (begin_exchange e s).clients; exchanges = (begin_exchange e s).exchanges; next_exchange = (begin_exchange e s).next_exchange }
unfolding begin_exchange add_exchange leave forsake
same_shape e s = refl

apart_still : (e : Exchange) (s : State) → AreApart s → AreApart (begin_exchange e s)
unfolding begin_exchange add_exchange leave forsake
apart_still e s apart = λ n. apart n

clients_still : (e : Exchange) (s : State) → (begin_exchange e s).clients ≡ s.clients
unfolding begin_exchange add_exchange leave forsake
clients_still e s = refl

next_number : (e : Exchange) (s : State) → (begin_exchange e s).next_exchange ≡ s.next_exchange + 1
unfolding begin_exchange add_exchange leave forsake
next_number e s = refl

once_more : (n c : ℕ) (e : Exchange) (es : List Exchange) (b : Bool) → e.asker ≡ Some c → (c == n) ≡ b → count_by (is_of n) es ≤ 1 → count_by (is_of n) (others c es ++ e ∷ []) ≤ 1
once_more n c e es true asks is less =
    let none : count_by (is_of n) (others c es) ≡ 0 = ap (λ (m : ℕ). count_by (is_of m) (others c es)) (sym (is_same c n is)) ∙ none_of c es in
    let one : count_by (is_of n) (e ∷ []) ≡ 1 = count_first (is_of n) e [] ∙ ap (λ (o : Option ℕ). cond (is_this n o) 1 0 + 0) asks ∙ ap (λ (t : Bool). cond t 1 0 + 0) is in
    omega (arith, none, one, count_joined (is_of n) (others c es) (e ∷ []))
once_more n c e es false asks isnt less =
    let none : count_by (is_of n) (e ∷ []) ≡ 0 = count_first (is_of n) e [] ∙ ap (λ (o : Option ℕ). cond (is_this n o) 1 0 + 0) asks ∙ ap (λ (t : Bool). cond t 1 0 + 0) isnt in
    omega (arith, none, less, few n c es, count_joined (is_of n) (others c es) (e ∷ []))

going_still : (c : ℕ) (e : Exchange) (es : List Exchange) → e.asker ≡ Some c → list_any is_over (others c es ++ e ∷ []) ≡ false
going_still c e es asks = none_joined (others c es) e (none_over c es) (ap (λ (o : Option ℕ). not (is_some o || is_some e.place)) asks)

pub one_more : (e : Exchange) (c : ℕ) (s : State) → e.asker ≡ Some c → HasOneMore s (begin_exchange e s)
one_more e c s asks = record {
  exchanges =
      let same : length (begin_exchange e s).exchanges ≡ length (others c s.exchanges) + 1 = ap (λ (es : List Exchange). length es) (begun e c s asks) ∙ length_joined (others c s.exchanges) e in
      omega (arith, same, no_longer c s.exchanges);
  next = omega (arith, next_number e s);
  asks = λ n once. record {
    once = subst (λ (es : List Exchange). count_by (is_of n) es ≤ 1) (sym (begun e c s asks)) (once_more n c e s.exchanges (c == n) asks refl once.once);
    going = ap (λ (es : List Exchange). list_any is_over es) (begun e c s asks) ∙ going_still c e s.exchanges asks;
    apart = apart_still e s once.apart;
  };
  rest = same_shape e s;
  client = λ m d there. itself s m d (ap (λ (cs : List Client). find (is_client m) cs) (sym (clients_still e s)) ∙ there);
}

-- ---- what it would ask is too long

abbrev pub too_long : Client → Client
too_long c = record c { course = AskTooLong }

abbrev long_if : ℕ → Client → Client
long_if n c = elim (is_client n c) as (λ b. Client) [ true ↦ too_long c | false ↦ c ]

course_alone : (n : ℕ) (c : Client) → long_if n c ≡ record c { course = (long_if n c).course }
course_alone n c = by (is_client n c)
  where
    by : (b : Bool) → (elim b as (λ b. Client) [ true ↦ too_long c | false ↦ c ]) ≡ record c { course = (elim b as (λ b. Client) [ true ↦ too_long c | false ↦ c ]).course }
    by true = refl
    by false = refl

same_client : (n m : ℕ) (c : Client) → is_client m (long_if n c) ≡ is_client m c
same_client n m c = by (is_client n c)
  where
    by : (b : Bool) → is_client m (elim b as (λ b. Client) [ true ↦ too_long c | false ↦ c ]) ≡ is_client m c
    by true = refl
    by false = refl

given_still : (n : ℕ) (c : Client) → is_refused c.course ≡ false → is_refused (long_if n c).course ≡ false
given_still n c given = by (is_client n c)
  where
    by : (b : Bool) → is_refused (elim b as (λ b. Client) [ true ↦ too_long c | false ↦ c ]).course ≡ false
    by true = refl
    by false = given

was_long : (n m : ℕ) (s : State) (c : Client) (o : Option Client) → find (is_client m) s.clients ≡ o → option_map (long_if n) o ≡ Some c → WasClient s m c
was_long n m s c None there is = absurd (none_some c is)
was_long n m s c (Some d) there is =
    let same : long_if n d ≡ c = some_is (long_if n d) c is in
    record {
      before = d;
      there = there;
      same = sym same ∙ course_alone n d ∙ ap (λ (x : Client). let y : Client = record d { course = x.course } in y) same;
      given = λ given. subst (λ (x : Client). is_refused x.course ≡ false) same (given_still n d given);
    }

long_clients : (n : ℕ) (s : State) → (on_client n too_long s).clients ≡ change (is_client n) too_long s.clients
unfolding on_client
long_clients n s = refl

long_shape : (n : ℕ) (s : State) → on_client n too_long s ≡ record s { clients = (on_client n too_long s).clients; exchanges = (on_client n too_long s).exchanges; next_exchange = (on_client n too_long s).next_exchange }
unfolding on_client
long_shape n s = refl

long_asks : (n : ℕ) (s : State) (m : ℕ) → AsksOnce m s → AsksOnce m (on_client n too_long s)
unfolding on_client
long_asks n s m once = record { once = once.once; going = once.going; apart = once.apart }

long_counts : (n : ℕ) (s : State) → ((on_client n too_long s).exchanges ≡ s.exchanges) × ((on_client n too_long s).next_exchange ≡ s.next_exchange)
unfolding on_client
long_counts n s = (refl, refl)

pub none_but_long : (n : ℕ) (s : State) → HasOneMore s (on_client n too_long s)
none_but_long n s = record {
  exchanges = let same : length (on_client n too_long s).exchanges ≡ length s.exchanges = ap (λ (es : List Exchange). length es) (long_counts n s).0 in omega (arith, same);
  next = let same : (on_client n too_long s).next_exchange ≡ s.next_exchange = (long_counts n s).1 in omega (arith, same);
  asks = long_asks n s;
  rest = long_shape n s;
  client = λ m c there. was_long n m s c (find (is_client m) s.clients) refl
      (sym (find_mapped (is_client m) (long_if n) s.clients (same_client n m)) ∙ ap (λ (cs : List Client). find (is_client m) cs) (sym (long_clients n s)) ∙ there);
}
