-- What a read of an origin leaves of the line of its connection: it gets no longer, the end of a response takes its front out, and where the
-- connection is closed it is empty (RFC 2616, section 8.1.2.2).
use Rattle.std.proofs.Common.{◌≡◌, ◌≤◌, ◌+◌, refl, sym, subst, ap, ◌∙◌, ℕ, ◌-◌, Bool, true, false, not, ◌==◌, ◌&&◌, cond, filter, find, length, map, List, ◌∷◌, Some, le_refl, le_trans, zero-le, arith}
use Rattle.pp_law.specs.Connections.{close_conn, conn, end_exchange, fail, front_of_line, is_conn, lose_attempt, lose_place, on_client_of, on_conn, on_exchange, unplaced, without_ask}
use Rattle.pp_law.specs.Passing.{pour}
use Rattle.pp_law.specs.Responses.{bad_head, bad_response, finish, may_go_on, rested, skip_body, skipping}
use Rattle.pp_law.specs.State.{State, Aim, Through, Own, Filling, Answer, Conn, Exchange}
use Rattle.pp_laws.proofs.Lists.{in_find}
use Rattle.pp_laws.proofs.Tests.{number_same}
use Rattle.pp_laws_bounds.proofs.Counts.{length-filter}
use Rattle.pp_laws_pool.proofs.PoolFacts.{find_map}
use Rattle.pp_laws_pool.proofs.PoolGot.{same_in}
use Rattle.pp_laws_pool.proofs.View.{Holds, View, Walk, facts_of, holds, view}
use Rattle.pp_laws_pool.proofs.WalkCases.{each_of, when}
use Rattle.pp_laws_pool.proofs.WalkClients.{pour-keeps}
use Rattle.pp_laws_pool.proofs.WalkClosings.{lose_place-keeps, off}
use Rattle.pp_laws_pool.proofs.WalkExchanges.{each_exchange-keeps, on_conn-keeps}
use Rattle.pp_laws_pool.proofs.WalkPieces.{close_this-keeps, lesser_rested, skip_body-keeps}
use Rattle.pp_pass.specs.Pipe.{Pipe, finished}

-- of one connection no more than so many wait
abbrev pub Line : ℕ → ℕ → View → Type 0
Line n most v = (k : Conn) → find (is_conn n) v.conns ≡ Some k → length k.line ≤ most

abbrev pub HasLine : ℕ → ℕ → State → Type 0
HasLine n most s = Holds (Line n most) s

by_lesser : (n most : ℕ) (f : Conn → Conn) (v : View) → ((k : Conn) → (f k).number ≡ k.number) → ((k : Conn) → length (f k).line ≤ length k.line) → Line n most v → Line n most (record v { conns = map f v.conns })
by_lesser n most f v number line h k found =
    let w = find_map n f v.conns k number found in subst (λ (j : Conn). length j.line ≤ most) (sym w.2) (le_trans (line w.0) (h w.0 w.1))

placed_again : (n most m : ℕ) (s : State) → Line n most (view s) → Line n most (view (on_exchange m unplaced s))
unfolding on_exchange
placed_again n most m s h = h

pub line_walk : (n most : ℕ) → Walk (Line n most)
line_walk n most = record {
  clients = λ f number v h. h;
  asks = λ f same v h. h;
  left = λ test v h. h;
  over = λ test v h. h;
  conns = λ f lesser v h. by_lesser n most f v (λ k. (lesser k).number) (λ k. (lesser k).line) h;
  chunks = λ test v h. h;
  again = λ m s may h. placed_again n most m s h;
}

-- connections stay
pub same_line : (n most : ℕ) (s t : State) → t.conns ≡ s.conns → HasLine n most s → HasLine n most t
same_line n most s t same h = holds (λ k found. facts_of h k (ap (λ (ks : List Conn). find (is_conn n) ks) (sym same) ∙ found))

-- ---- one connection is changed

at_number : (m : ℕ) (f : Conn → Conn) (k : Conn) (b : Bool) → (f k).number ≡ k.number → (elim b as (λ t. Conn) [ true ↦ f k | false ↦ k ]).number ≡ k.number
at_number m f k true same = same
at_number m f k false same = refl

at_line : (f : Conn → Conn) (k : Conn) (b : Bool) → length (f k).line ≤ length k.line → length (elim b as (λ t. Conn) [ true ↦ f k | false ↦ k ]).line ≤ length k.line
at_line f k true less = less
at_line f k false less = le_refl (length k.line)

pub set_line : (n most m : ℕ) (f : Conn → Conn) (s : State) → ((k : Conn) → (f k).number ≡ k.number) → ((k : Conn) → length (f k).line ≤ length k.line) → HasLine n most s → HasLine n most (on_conn m f s)
unfolding on_conn
set_line n most m f s number line h =
    holds (by_lesser n most (λ k. elim (is_conn m k) as (λ t. Conn) [ true ↦ f k | false ↦ k ]) (view s) (λ k. at_number m f k (is_conn m k) (number k)) (λ k. at_line f k (is_conn m k) (line k)) (facts_of h))

-- what was changed
pub was_set : (n : ℕ) (f : Conn → Conn) (s : State) (k : Conn) → ((j : Conn) → (f j).number ≡ j.number) → conn (on_conn n f s) n ≡ Some k → (was : Conn) × (conn s n ≡ Some was) × (k ≡ f was)
unfolding on_conn
was_set n f s k number found =
    let w = find_map n (λ j. elim (is_conn n j) as (λ t. Conn) [ true ↦ f j | false ↦ j ]) s.conns k (λ j. at_number n f j (is_conn n j) (number j)) found in
    (w.0, w.1, w.2 ∙ ap (λ (b : Bool). elim b as (λ t. Conn) [ true ↦ f w.0 | false ↦ w.0 ]) (in_find (is_conn n) w.0 s.conns w.1).1)

-- ---- it is closed

shut : (n : ℕ) (s : State) → HasLine n 0 (on_conn n off s)
shut n s = holds (λ k found. let w = was_set n off s k (λ j. refl) found in subst (λ (j : Conn). length j.line ≤ 0) (sym w.2) zero-le)

closed : (counts : Bool) (k : Conn) (s : State) → HasLine k.number 0 (close_conn counts k s)
unfolding close_conn
closed counts k s =
    each_exchange-keeps (line_walk k.number 0) (lose_place (counts && not k.has_brought)) (λ e t h. lose_place-keeps (line_walk k.number 0) (counts && not k.has_brought) e t h) k.line _ (shut k.number s)

pub bad_closes : (k : Conn) (s : State) → HasLine k.number 0 (bad_response k s)
unfolding bad_response
bad_closes k s = each_of (front_of_line s k) (closed false k s) (λ e. closed false k (end_exchange e.number (fail e s)))

pub bad_head_closes : (k : Conn) (s : State) → HasLine k.number 0 (bad_head k s)
unfolding bad_head
bad_head_closes k s = when k.has_brought (each_of (front_of_line s k) (closed false k s) (λ e. closed false k (lose_attempt e s))) (bad_closes k s)

-- ---- a response is whole

pour_conns : (e : Exchange) (f : Pipe → Pipe) (s : State) → (pour e f s).conns ≡ s.conns
unfolding pour on_client_of
pour_conns e f s = refl

skip_conns : (e : Exchange) (s : State) → (skip_body e s).conns ≡ s.conns
unfolding skip_body on_client_of
skip_conns e s = by e.aim
  where
    by : (aim : Aim) → (elim aim as (λ t. State) [ Through ↦ on_client_of e skipping s | Own ↦ s | Filling v from to ↦ s ]).conns ≡ s.conns
    by Through = refl
    by Own = refl
    by (Filling v from to) = refl

-- its front is taken out
out : (m : ℕ) (others : List ℕ) → length (filter (λ x. not (x == m)) (m ∷ others)) ≤ length others
out m others = of (m == m) (number_same m)
  where
    of : (t : Bool) → t ≡ true → length (cond (not t) (m ∷ filter (λ x. not (x == m)) others) (filter (λ x. not (x == m)) others)) ≤ length others
    of true is = length-filter (λ x. not (x == m)) others
    of false is = absurd (cc is)

less_one : (a b c : ℕ) → a ≤ b → b + 1 ≤ c → a ≤ c - 1
less_one a b c one two = omega (arith, one, two)

front_out : (n most m : ℕ) (others : List ℕ) (k : Conn) (s : State) → conn s n ≡ Some k → k.line ≡ m ∷ others → HasLine n most s → HasLine n (most - 1) (end_exchange m s)
unfolding end_exchange
front_out n most m others k s found line h = holds (λ j is. by j is)
  where
    long : length others + 1 ≤ most
    long = let all : length (m ∷ others) ≤ most = subst (λ (ns : List ℕ). length ns ≤ most) line (facts_of h k found) in omega (arith, all)

    short : (j : Conn) → k ≡ j → length (filter (λ x. not (x == m)) j.line) ≤ most - 1
    short j same = subst (λ (ns : List ℕ). length (filter (λ x. not (x == m)) ns) ≤ most - 1) (sym line ∙ ap (λ (c : Conn). c.line) same) (less_one (length (filter (λ x. not (x == m)) (m ∷ others))) (length others) most (out m others) long)

    by : (j : Conn) → find (is_conn n) (map (without_ask m) s.conns) ≡ Some j → length j.line ≤ most - 1
    by j is =
        let w = find_map n (without_ask m) s.conns j (λ c. refl) is in
        subst (λ (c : Conn). length c.line ≤ most - 1) (sym w.2) (short w.0 (same_in (sym found ∙ w.1)))

pub finish_line : (n most : ℕ) (others : List ℕ) (k j : Conn) (e : Exchange) (a : Answer) (s : State) → conn s n ≡ Some j → j.line ≡ e.number ∷ others → HasLine n most s → HasLine n (most - 1) (finish k e a s)
unfolding finish
finish_line n most others k j e a s found line h = when (may_go_on e a.head) done (close_this-keeps (line_walk n (most - 1)) k.number _ done)
  where
    quiet : State
    quiet = skip_body e (pour e finished s)

    still : conn quiet n ≡ Some j
    still = ap (λ (ks : List Conn). find (is_conn n) ks) (skip_conns e (pour e finished s) ∙ pour_conns e finished s) ∙ found

    over : HasLine n (most - 1) (end_exchange e.number quiet)
    over = front_out n most e.number others j quiet still line (skip_body-keeps (line_walk n most) e _ (pour-keeps (line_walk n most) e finished s h))

    done : HasLine n (most - 1) (on_conn k.number (rested a.head) (end_exchange e.number quiet))
    done = on_conn-keeps (line_walk n (most - 1)) k.number (rested a.head) _ (lesser_rested a.head) over
