-- What the closing of a connection that counts for nobody leaves as it was, in the law.
use Rattle.std.proofs.Common.{◌≡◌, refl, sym, subst, ap₂, ◌∙◌, ℕ, Bool, true, false, not, ◌==◌, ◌||◌, cond, filter, map, List, [], ◌∷◌, Some, None, Option}
use Rattle.std.specs.Prelude.{option_map}
use Rattle.pp_cache_law.proofs.Finds.{find_mapped}
use Rattle.pp_cache_law.proofs.Numbers.{some_is}
use Rattle.pp_flow_law.proofs.Entries.{none_some}
use Rattle.pp_flow_law.specs.Frames.{emptied}
use Rattle.pp_law.specs.Connections.{close_conn, conn, each_exchange, end_exchange, exchange, is_conn, is_for, leave_place, lose_place, may_ask_again, on_client_of, on_conn, on_exchange, unplaced, without_ask}
use Rattle.pp_law.specs.Lists.{has_number}
use Rattle.pp_law.specs.Stages.{is_headed, on_passed, passed_of}
use Rattle.pp_law.specs.State.{State, Client, Conn, Exchange, Passed, Passes, Reply}
use Rattle.pp_law.specs.Unseen.{came_of}
use Rattle.pp_turns_law.proofs.StillFollowing.{replying}

-- ---- each connection that is there was there, and no exchange comes to its line

pub record HadConn (s : State) (n : ℕ) (k : Conn) : Type 0 where
  pub before : Conn
  pub there : conn s n ≡ Some before
  pub line : (m : ℕ) → has_number m k.line ≡ true → (has_number m before.line ≡ true) × (came_of k ≡ came_of before)

pub record Stays (s t : State) : Type 0 where
  pub instances : t.instances ≡ s.instances
  pub replies : map replying t.clients ≡ map replying s.clients
  pub conns : (n : ℕ) (k : Conn) → conn t n ≡ Some k → HadConn s n k

same_conn : (s : State) (n : ℕ) (k : Conn) → conn s n ≡ Some k → HadConn s n k
same_conn s n k there = record { before = k; there = there; line = λ m has. (has, refl) }

itself : (s : State) → Stays s s
itself s = record { instances = refl; replies = refl; conns = λ n k there. same_conn s n k there }

then : (s t u : State) → Stays s t → Stays t u → Stays s u
then s t u one two = record {
  instances = two.instances ∙ one.instances;
  replies = two.replies ∙ one.replies;
  conns = λ n k there. join n k (two.conns n k there);
}
  where
    join : (n : ℕ) (k : Conn) → HadConn t n k → HadConn s n k
    join n k b =
        let a : HadConn s n b.before = one.conns n b.before b.there in
        record { before = a.before; there = a.there; line = λ m has. ((a.line m (b.line m has).0).0, (b.line m has).1 ∙ (a.line m (b.line m has).0).1) }

-- ---- connections are changed as one

abbrev KeepsLine : (Conn → Conn) → Type 0
KeepsLine f = (k : Conn) (m : ℕ) → has_number m (f k).line ≡ true → (has_number m k.line ≡ true) × (came_of (f k) ≡ came_of k)

was_conn : (f : Conn → Conn) → KeepsLine f → (s : State) (n : ℕ) (k : Conn) (o : Option Conn) → conn s n ≡ o → option_map f o ≡ Some k → HadConn s n k
was_conn f keeps s n k None is found = absurd (none_some k found)
was_conn f keeps s n k (Some j) is found =
    subst (λ (i : Conn). HadConn s n i) (some_is (f j) k found) (record { before = j; there = is; line = keeps j })

less_has : (n m : ℕ) (line : List ℕ) → has_number m (filter (λ i. not (i == n)) line) ≡ true → has_number m line ≡ true
less_has n m [] has = has
less_has n m (i ∷ line) has = by (not (i == n)) has (less_has n m line)
  where
    first : (b : Bool) → b || has_number m (filter (λ j. not (j == n)) line) ≡ true → (has_number m (filter (λ j. not (j == n)) line) ≡ true → has_number m line ≡ true) → b || has_number m line ≡ true
    first true has rest = refl
    first false has rest = rest has

    later : (b : Bool) → has_number m line ≡ true → b || has_number m line ≡ true
    later true has = refl
    later false has = has

    by : (a : Bool) → has_number m (cond a (i ∷ filter (λ j. not (j == n)) line) (filter (λ j. not (j == n)) line)) ≡ true → (has_number m (filter (λ j. not (j == n)) line) ≡ true → has_number m line ≡ true)
        → (i == m) || has_number m line ≡ true
    by true has rest = first (i == m) has rest
    by false has rest = later (i == m) (rest has)

-- ---- an exchange is over

over : (n : ℕ) (s : State) → Stays s (end_exchange n s)
unfolding end_exchange
over n s = record {
  instances = refl;
  replies = refl;
  conns = λ i k there. was_conn (without_ask n) (λ j m has. (less_has n m j.line has, refl)) s i k (conn s i) refl (sym (find_mapped (is_conn i) (without_ask n) s.conns (λ j. refl)) ∙ there);
}

-- ---- what was passed of it ends early

abbrev cut_off : Passed → Passed
cut_off p = record p { is_short = true }

reply_cut : (c : Client) → replying (on_passed cut_off c) ≡ replying c
reply_cut c = by (passed_of c)
  where
    by : (o : Option Passed) → replying (elim o as (λ t. Client) [ None ↦ c | Some p ↦ record c { brought = Passes (cut_off p) } ]) ≡ replying c
    by None = refl
    by (Some p) = refl

abbrev cut_if : Exchange → Client → Client
cut_if e c = elim (is_for e c) as (λ t. Client) [ true ↦ on_passed cut_off c | false ↦ c ]

replies_cut : (e : Exchange) (cs : List Client) → map replying (map (cut_if e) cs) ≡ map replying cs
replies_cut e [] = refl
replies_cut e (c ∷ cs) = ap₂ (λ (r : Bool × Option Reply) (rs : List (Bool × Option Reply)). r ∷ rs) (by (is_for e c)) (replies_cut e cs)
  where
    by : (b : Bool) → replying (elim b as (λ t. Client) [ true ↦ on_passed cut_off c | false ↦ c ]) ≡ replying c
    by true = reply_cut c
    by false = refl

shortens : (e : Exchange) (s : State) → Stays s (on_client_of e (on_passed cut_off) s)
unfolding on_client_of
shortens e s = record { instances = refl; replies = replies_cut e s.clients; conns = λ n k there. same_conn s n k there }

-- ---- it loses its place

elsewhere : (n : ℕ) (s : State) → Stays s (on_exchange n unplaced s)
unfolding on_exchange
elsewhere n s = record { instances = refl; replies = refl; conns = λ i k there. same_conn s i k there }

leaves : (e : Exchange) (s : State) → Stays s (leave_place e s)
unfolding leave_place
leaves e s = by (is_headed e)
  where
    at : (b : Bool) → Stays s (elim b as (λ t. State) [ true ↦ on_exchange e.number unplaced s | false ↦ end_exchange e.number s ])
    at true = elsewhere e.number s
    at false = over e.number s

    by : (b : Bool) → Stays s (elim b as (λ t. State) [
      | true ↦ end_exchange e.number (on_client_of e (on_passed cut_off) s)
      | false ↦ elim (may_ask_again s e.number) as (λ t. State) [ true ↦ on_exchange e.number unplaced s | false ↦ end_exchange e.number s ]
    ])
    by true = then s (on_client_of e (on_passed cut_off) s) (end_exchange e.number (on_client_of e (on_passed cut_off) s)) (shortens e s) (over e.number (on_client_of e (on_passed cut_off) s))
    by false = at (may_ask_again s e.number)

loses : (e : Exchange) (s : State) → Stays s (lose_place false e s)
unfolding lose_place
loses e s = leaves e s

each : (ns : List ℕ) (s : State) → Stays s (each_exchange (lose_place false) ns s)
unfolding each_exchange
each [] s = itself s
each (n ∷ ns) s =
    let t : State = elim (exchange s n) as (λ t. State) [ None ↦ s | Some e ↦ lose_place false e s ] in
    then s t (each_exchange (lose_place false) ns t) (by (exchange s n)) (each ns t)
  where
    by : (o : Option Exchange) → Stays s (elim o as (λ t. State) [ None ↦ s | Some e ↦ lose_place false e s ])
    by None = itself s
    by (Some e) = loses e s

-- ---- a connection is closed

abbrev emptied_if : ℕ → Conn → Conn
emptied_if n k = elim (is_conn n k) as (λ t. Conn) [ true ↦ emptied k | false ↦ k ]

none_has : (m : ℕ) → has_number m [] ≡ true → ⊥
none_has m has = absurd (let bad : false ≡ true = has in cc)

empties : (n : ℕ) (s : State) → Stays s (on_conn n emptied s)
unfolding on_conn
empties n s = record {
  instances = refl;
  replies = refl;
  conns = λ i k there. was_conn (emptied_if n) (λ j m has. line (is_conn n j) j m has) s i k (conn s i) refl (sym (find_mapped (is_conn i) (emptied_if n) s.conns (λ j. number (is_conn n j) i j)) ∙ there);
}
  where
    number : (b : Bool) (i : ℕ) (j : Conn) → is_conn i (elim b as (λ t. Conn) [ true ↦ emptied j | false ↦ j ]) ≡ is_conn i j
    number true i j = refl
    number false i j = refl

    line : (b : Bool) (j : Conn) (m : ℕ) → has_number m (elim b as (λ t. Conn) [ true ↦ emptied j | false ↦ j ]).line ≡ true
        → (has_number m j.line ≡ true) × (came_of (elim b as (λ t. Conn) [ true ↦ emptied j | false ↦ j ]) ≡ came_of j)
    line true j m has = absurd (none_has m has)
    line false j m has = (has, refl)

pub dropped_stays : (m : ℕ) (k : Conn) (s : State) → Stays s (close_conn false k (end_exchange m s))
unfolding close_conn
dropped_stays m k s =
    then s (end_exchange m s) (each_exchange (lose_place false) k.line (on_conn k.number emptied (end_exchange m s))) (over m s)
    (then (end_exchange m s) (on_conn k.number emptied (end_exchange m s)) (each_exchange (lose_place false) k.line (on_conn k.number emptied (end_exchange m s))) (empties k.number (end_exchange m s))
    (each k.line (on_conn k.number emptied (end_exchange m s))))
