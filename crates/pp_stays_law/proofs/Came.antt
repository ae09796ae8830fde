-- What came on a connection for the response that comes there stands as it was, as long as the connection stands.
use Rattle.std.proofs.Common.{◌≡◌, ◌≤◌, ◌<◌, ◌+◌, refl, sym, subst, ap, ◌∙◌, ℕ, Bool, true, false, not, ◌==◌, cond, find, map, nat_lt, List, [], ◌∷◌, ◌++◌, Some, le_trans, arith}
use Rattle.std.proofs.lemmas.Bool.Decides.{nat_tests}
use Rattle.std.specs.Prelude.{count_by}
use Rattle.pp_cache_law.proofs.Numbers.{is_same, some_is}
use Rattle.pp_cache_law.proofs.PairLemmas.{count_first}
use Rattle.pp_law.specs.After.{new_conn, out}
use Rattle.pp_law.specs.Connections.{attempts_of, charge, conn, end_exchange, give_up_row, is_conn, is_unfilled, lose_attempt, lost_one, on_client_of, on_conn, on_exchange, put_on, without_ask, without_row}
use Rattle.pp_law.specs.Closing.{left_alone}
use Rattle.pp_law.specs.Lists.{Bytes, change, without}
use Rattle.pp_law.specs.State.{State, Client, Conn, Course, Exchange}
use Rattle.pp_law.specs.Table.{clear, swept}
use Rattle.pp_law.specs.Unseen.{came_of}
use Rattle.pp_target.specs.Key.{text_of}
use Rattle.pp_stays_law.proofs.Law.{Any}

-- of each with this number so much
abbrev pub HasCome : ℕ → ℕ → Conn → Type 0
HasCome n c k = (k.number == n) ≡ true → came_of k ≡ c

abbrev pub AllConns : (Conn → Type 0) → List Conn → Type 0
AllConns R [] = Unit {0}
AllConns R (k ∷ ks) = R k × AllConns R ks

-- and its number was given
pub record Came (n c : ℕ) (s : State) : Type 0 where
  pub given : n ≤ s.top
  pub conns : AllConns (HasCome n c) s.conns

-- ---- lists

all_map : (R : Conn → Type 0) (f : Conn → Conn) (ks : List Conn) → ((k : Conn) → R k → R (f k)) → AllConns R ks → AllConns R (map f ks)
all_map R f [] each all = tt
all_map R f (k ∷ ks) each all = (each k all.0, all_map R f ks each all.1)

all_change : (R : Conn → Type 0) (test : Conn → Bool) (f : Conn → Conn) (ks : List Conn) → ((k : Conn) → R k → R (f k)) → AllConns R ks → AllConns R (change test f ks)
all_change R test f [] each all = tt
all_change R test f (k ∷ ks) each all = (by (test k), all_change R test f ks each all.1)
  where
    by : (b : Bool) → R (elim b as (λ t. Conn) [ true ↦ f k | false ↦ k ])
    by true = each k all.0
    by false = all.0

all_without : (R : Conn → Type 0) (test : Conn → Bool) (ks : List Conn) → AllConns R ks → AllConns R (without test ks)
all_without R test [] all = tt
all_without R test (k ∷ ks) all = by (not (test k)) (all_without R test ks all.1)
  where
    by : (b : Bool) → AllConns R (without test ks) → AllConns R (cond b (k ∷ without test ks) (without test ks))
    by true rest = (all.0, rest)
    by false rest = rest

all_last : (R : Conn → Type 0) (ks : List Conn) (k : Conn) → R k → AllConns R ks → AllConns R (ks ++ k ∷ [])
all_last R [] k one all = (one, tt)
all_last R (j ∷ ks) k one all = (all.0, all_last R ks k one all.1)

all_found : (R : Conn → Type 0) (test : Conn → Bool) (ks : List Conn) (k : Conn) → find test ks ≡ Some k → AllConns R ks → R k × (test k ≡ true)
all_found R test [] k there all = absurd (cc there)
all_found R test (j ∷ ks) k there all = by (test j) refl there (λ later. all_found R test ks k later all.1)
  where
    by : (b : Bool) → test j ≡ b → cond b (Some j) (find test ks) ≡ Some k → (find test ks ≡ Some k → R k × (test k ≡ true)) → R k × (test k ≡ true)
    by true is found rest = let same : j ≡ k = some_is j k found in (subst R same all.0, ap test (sym same) ∙ is)
    by false is found rest = rest found

-- ---- one of each number, where no two have one

none_so : (test : Conn → Bool) (c : ℕ) (ks : List Conn) → count_by test ks ≡ 0 → AllConns (λ k. test k ≡ true → came_of k ≡ c) ks
none_so test c [] none = tt
none_so test c (k ∷ ks) none = by (test k) refl (none_so test c ks)
  where
    less : (b : Bool) (m : ℕ) → cond b 1 0 + m ≡ 0 → (b ≡ false) × (m ≡ 0)
    less true m is = absurd (omega (arith, is))
    less false m is = (refl, omega (arith, is))

    both : (test k ≡ false) × (count_by test ks ≡ 0)
    both = less (test k) (count_by test ks) (sym (count_first test k ks) ∙ none)

    by : (b : Bool) → test k ≡ b → (count_by test ks ≡ 0 → AllConns (λ j. test j ≡ true → came_of j ≡ c) ks) → AllConns (λ j. test j ≡ true → came_of j ≡ c) (k ∷ ks)
    by b is rest = ((λ yes. absurd (let bad : true ≡ false = sym yes ∙ both.0 in cc bad)), rest both.1)

one_so : (test : Conn → Bool) (ks : List Conn) (k : Conn) → count_by test ks ≤ 1 → find test ks ≡ Some k → AllConns (λ j. test j ≡ true → came_of j ≡ came_of k) ks
one_so test [] k few there = absurd (cc there)
one_so test (j ∷ ks) k few there = by (test j) refl there (λ less later. one_so test ks k less later)
  where
    first : (m : ℕ) → cond true 1 0 + m ≤ 1 → m ≡ 0
    first m less = omega (arith, less)

    rest_few : (m : ℕ) → cond false 1 0 + m ≤ 1 → m ≤ 1
    rest_few m less = omega (arith, less)

    counts : (b : Bool) → test j ≡ b → cond b 1 0 + count_by test ks ≤ 1
    counts b is = subst (λ (t : Bool). cond t 1 0 + count_by test ks ≤ 1) is (subst (λ (m : ℕ). m ≤ 1) (count_first test j ks) few)

    by : (b : Bool) → test j ≡ b → cond b (Some j) (find test ks) ≡ Some k → (count_by test ks ≤ 1 → find test ks ≡ Some k → AllConns (λ i. test i ≡ true → came_of i ≡ came_of k) ks) → AllConns (λ i. test i ≡ true → came_of i ≡ came_of k) (j ∷ ks)
    by true is found rest = ((λ yes. ap (λ (i : Conn). came_of i) (some_is j k found)), none_so test (came_of k) ks (first (count_by test ks) (counts true is)))
    by false is found rest = ((λ yes. absurd (let bad : true ≡ false = sym yes ∙ is in cc bad)), rest (rest_few (count_by test ks) (counts false is)) found)

pub came_at : (n : ℕ) (k : Conn) (s : State) → count_by (is_conn n) s.conns ≤ 1 → n ≤ s.top → conn s n ≡ Some k → Came n (came_of k) s
came_at n k s few given there = record { given = given; conns = one_so (is_conn n) s.conns k few there }

pub came_still : (n c : ℕ) (k : Conn) (s : State) → Came n c s → conn s n ≡ Some k → came_of k ≡ c
came_still n c k s came there = let its : HasCome n c k × (is_conn n k ≡ true) = all_found (HasCome n c) (is_conn n) s.conns k there came.conns in its.0 its.1

-- ---- it stands behind

module _ (n c : ℕ) where
  same_conns : (s t : State) → t.conns ≡ s.conns → t.top ≡ s.top → Came n c s → Came n c t
  same_conns s t conns top came = record { given = subst (λ (m : ℕ). n ≤ m) (sym top) came.given; conns = subst (λ (ks : List Conn). AllConns (HasCome n c) ks) (sym conns) came.conns }

  over_came : (m : ℕ) (s : State) → Came n c s → Came n c (end_exchange m s)
  unfolding end_exchange
  over_came m s came = record { given = came.given; conns = all_map (HasCome n c) (without_ask m) s.conns (λ k its. its) came.conns }

  out_came : (m : ℕ) (s : State) → Came n c s → Came n c (out m s)
  unfolding out
  out_came m s came = record { given = came.given; conns = all_without (HasCome n c) (is_conn m) s.conns came.conns }

  pub any_came : Any (Came n c)
  any_came = record { quiet = λ s t same came. same_conns s t same.conns same.top came; over = over_came; out = out_came }

  pub put_came : (m k : ℕ) (s : State) → Came n c s → Came n c (put_on m k s)
  unfolding put_on on_conn on_exchange
  put_came m k s came = record { given = came.given; conns = all_change (HasCome n c) (is_conn k) (λ j. record j { line = j.line ++ m ∷ [] }) s.conns (λ j its. its) came.conns }

  -- a new one has a number that none had
  apart : (m top : ℕ) → nat_lt top m ≡ true → n ≤ top → (m == n) ≡ true → ⊥
  apart m top new given is = let same : m ≡ n = is_same m n is in absurd (let less : top < m = above m top new in omega (arith, same, less, given))
    where
      above : (m top : ℕ) → nat_lt top m ≡ true → top < m
      above m top is = grind (arith, nat_tests)

  pub opened_came : (m : ℕ) (host : Bytes) (port now : ℕ) (s : State) → nat_lt s.top m ≡ true → Came n c s → Came n c (record s { conns = s.conns ++ new_conn m host port now ∷ []; top = m })
  opened_came m host port now s new came = record {
    given = le_trans came.given (above m s.top new);
    conns = all_last (HasCome n c) s.conns (new_conn m host port now) (λ is. absurd (apart m s.top new came.given is)) came.conns;
  }
    where
      above : (m top : ℕ) → nat_lt top m ≡ true → top ≤ m
      above m top is = grind (arith, nat_tests)

  -- an attempt is lost
  cleared_conns : (key : Bytes) (s : State) → ((clear key s).conns ≡ s.conns) × ((clear key s).top ≡ s.top)
  unfolding clear swept
  cleared_conns key s = (refl, refl)

  given_up_conns : (e : Exchange) (s : State) → ((give_up_row e s).conns ≡ s.conns) × ((give_up_row e s).top ≡ s.top)
  unfolding give_up_row on_client_of on_exchange
  given_up_conns e s = by (is_unfilled s e)
    where
      by : (b : Bool)
          → ((elim b as (λ t. State) [ false ↦ s | true ↦ on_exchange e.number left_alone (on_client_of e without_row (clear (text_of e.key) s)) ]).conns ≡ s.conns)
          × ((elim b as (λ t. State) [ false ↦ s | true ↦ on_exchange e.number left_alone (on_client_of e without_row (clear (text_of e.key) s)) ]).top ≡ s.top)
      by true = cleared_conns (text_of e.key) s
      by false = (refl, refl)

  charged_conns : (cost : Course → Course) (e : Exchange) (s : State) → ((charge cost e s).conns ≡ s.conns) × ((charge cost e s).top ≡ s.top)
  unfolding charge on_client_of
  charged_conns cost e s = given_up_conns e (on_client_of e (λ (d : Client). record d { course = cost d.course }) s)

  pub lost_came : (e : Exchange) (s : State) → Came n c s → Came n c (lose_attempt e s)
  unfolding lose_attempt
  lost_came e s came = let same : ((lose_attempt e s).conns ≡ s.conns) × ((lose_attempt e s).top ≡ s.top) = charged_conns (lost_one (attempts_of e)) e s in same_conns s (lose_attempt e s) same.0 same.1 came
