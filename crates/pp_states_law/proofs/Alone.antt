-- One connection is changed, and what is asked on it alone.
use Rattle.std.proofs.Common.{◌≡◌, ◌≤◌, ◌+◌, refl, sym, subst, ap, ◌∙◌, ℕ, Bool, true, false, ◌==◌, ◌||◌, cond, find, List, [], ◌∷◌, ◌++◌, Some, Option, arith}
use Rattle.std.specs.Prelude.{count_by, ⊤}
use Rattle.pp_cache_law.proofs.PairLemmas.{count_first, count_joined}
use Rattle.pp_cache_law.specs.Pairs.{AreBoth}
use Rattle.pp_flow.specs.Changes.{Exchanges, is_on, line_of}
use Rattle.pp_flow.specs.Entries.{is_number as is_entry}
use Rattle.pp_flow.specs.declared.entry.Entry.{Entry}
use Rattle.pp_flow_law.proofs.Entries.{line_first, same_number}
use Rattle.pp_flow_law.proofs.Standing.{few_placed}
use Rattle.pp_flow_law.specs.Tables.{Leaving, ShowsFlow, line_in}
use Rattle.pp_law.specs.Connections.{conn, exchange, is_conn}
use Rattle.pp_law.specs.Lists.{Bytes, change, has_number}
use Rattle.pp_law.specs.State.{State, Conn, Exchange}
use Rattle.pp_peers.specs.Peers.{is_number, with_peer, with_pipe}
use Rattle.pp_peers.specs.declared.peers.Peer.{Peer}
use Rattle.pp_peers_law.specs.Asked.{AreDistinct}
use Rattle.pp_peers_law.specs.Peers.{ShowsConn, ShowConns}
use Rattle.pp_pipe.specs.Line.{Line}
use Rattle.pp_states_law.specs.Asks.{AreAskedAs, IsAskedAs}
use Rattle.pp_states_law.specs.Conns.{GoesOnAs}
use Rattle.pp_states_law.specs.Decisions.{AreApart}
use Rattle.pp_states_law.specs.States.{Parts, ShowsState}
use Rattle.pp_states_law.proofs.Asked.{conn_again}
use Rattle.pp_states_law.proofs.Lines.{AllFound, IsPlaced, all_found, in_line, same_itself}

-- ---- what is asked on the others is asked as before

abbrev pub OthersAreAskedAs : ℕ → State → State → List Conn → Type 0
OthersAreAskedAs n s t [] = ⊤
OthersAreAskedAs n s t (k ∷ ks) = (is_conn n k ≡ false → k.is_closing ≡ false → AreAskedAs s t k.line) × OthersAreAskedAs n s t ks

-- none has that number: none is changed
none_changed : (s t : State) (n : ℕ) (to : Conn → Conn) (ps : List Peer) (ks : List Conn) → count_by (is_conn n) ks ≡ 0 → OthersAreAskedAs n s t ks → ShowConns s ps ks → ShowConns t ps (change (is_conn n) to ks)
none_changed s t n to [] [] none same shows = tt
none_changed s t n to [] (k ∷ ks) none same shows = absurd shows
none_changed s t n to (p ∷ ps) [] none same shows = absurd shows
none_changed s t n to (p ∷ ps) (k ∷ ks) none same shows = by (is_conn n k) refl (sym (count_first (is_conn n) k ks) ∙ none) (none_changed s t n to ps ks)
  where
    by : (b : Bool) → is_conn n k ≡ b → cond b 1 0 + count_by (is_conn n) ks ≡ 0 → (count_by (is_conn n) ks ≡ 0 → OthersAreAskedAs n s t ks → ShowConns s ps ks → ShowConns t ps (change (is_conn n) to ks))
        → ShowConns t (p ∷ ps) ((elim b as (λ b. Conn) [ true ↦ to k | false ↦ k ]) ∷ change (is_conn n) to ks)
    by true is few rest = absurd (omega (arith, few))
    by false is few rest = (conn_again s t p k (same.0 is) shows.0, rest (omega (arith, few)) same.1 shows.1)

pub changes_alone : (s t : State) (n : ℕ) (new : Peer) (to : Conn → Conn) (ps : List Peer) (ks : List Conn) → count_by (is_conn n) ks ≤ 1 → OthersAreAskedAs n s t ks → GoesOnAs s t n ps ks new to → ShowConns s ps ks
    → ShowConns t (with_peer n new ps) (change (is_conn n) to ks)
changes_alone s t n new to [] [] few same goes shows = tt
changes_alone s t n new to [] (k ∷ ks) few same goes shows = absurd shows
changes_alone s t n new to (p ∷ ps) [] few same goes shows = absurd shows
changes_alone s t n new to (p ∷ ps) (k ∷ ks) few same goes shows =
    by (is_number n p) (is_conn n k) refl (ap (λ (m : ℕ). m == n) shows.0.number) (let e : cond (is_conn n k) 1 0 + count_by (is_conn n) ks ≤ 1 = omega (arith, few, count_first (is_conn n) k ks) in e) (λ one other. goes p k one other shows.0)
    (λ less these. changes_alone s t n new to ps ks less same.1 these shows.1) goes
  where
    by : (b c : Bool) → is_conn n k ≡ c → b ≡ c → cond c 1 0 + count_by (is_conn n) ks ≤ 1
        → (cond b (Some p) (find (is_number n) ps) ≡ Some p → cond c (Some k) (find (is_conn n) ks) ≡ Some k → ShowsConn t new (to k))
        → (count_by (is_conn n) ks ≤ 1 → GoesOnAs s t n ps ks new to → ShowConns t (with_peer n new ps) (change (is_conn n) to ks))
        → ((q : Peer) (j : Conn) → cond b (Some p) (find (is_number n) ps) ≡ Some q → cond c (Some k) (find (is_conn n) ks) ≡ Some j → ShowsConn s q j → ShowsConn t new (to j))
        → ShowConns t (cond b (new ∷ ps) (p ∷ with_peer n new ps)) ((elim c as (λ b. Conn) [ true ↦ to k | false ↦ k ]) ∷ change (is_conn n) to ks)
    by true true is same_number less one rest these = (one refl refl, none_changed s t n to ps ks (omega (arith, less)) same.1 shows.1)
    by true false is same_number less one rest these = absurd cc
    by false true is same_number less one rest these = absurd cc
    by false false is same_number less one rest these = (conn_again s t p k (same.0 is) shows.0, rest (omega (arith, less)) these)

-- ---- by their places

abbrev pub AsksOn : ℕ → State → State → Type 0
AsksOn n s t = (k m : ℕ) → (k == n) ≡ false → IsPlaced k m s → AreBoth IsAskedAs (exchange s m) (exchange t m)

line_by : (s t : State) (line : List ℕ) → ((m : ℕ) → has_number m line ≡ true → AreBoth IsAskedAs (exchange s m) (exchange t m)) → AreAskedAs s t line
line_by s t [] each = tt
line_by s t (m ∷ line) each = (each m (or_first (m == m) (has_number m line) (same_itself m)), line_by s t line (λ i has. each i (or_later (m == i) (has_number i line) has)))
  where
    or_later : (a b : Bool) → b ≡ true → a || b ≡ true
    or_later true b is = refl
    or_later false b is = is

    or_first : (a b : Bool) → a ≡ true → a || b ≡ true
    or_first a b is = ap (λ (t : Bool). t || b) is

pub others_as : (number : ℕ → ℕ) (l : Leaving) (f : Exchanges) (s t : State) (n : ℕ) → ShowsFlow number l f s → AsksOn n s t → (ks : List Conn) → AllFound s ks → OthersAreAskedAs n s t ks
others_as number l f s t n shows each [] found = tt
others_as number l f s t n shows each (k ∷ ks) found = (
  (λ off goes. line_by s t k.line (λ m has. each k.number m off (in_line number l f s shows k.number m (ap (λ (o : Option Conn). has_number m (line_in o)) found.0 ∙ has)))),
  others_as number l f s t n shows each ks found.1,
)

-- two exchanges with two places have two numbers
pub two_numbers : (s : State) (n m : ℕ) (e d : Exchange) → exchange s n ≡ Some e → exchange s m ≡ Some d → (d.place ≡ e.place → ⊥) → (n == m) ≡ false
two_numbers s n m e d one other differ = by (n == m) refl
  where
    by : (b : Bool) → (n == m) ≡ b → b ≡ false
    by false is = refl
    by true is = absurd (differ (same (sym one ∙ ap (λ (i : ℕ). exchange s i) (same_number n m is) ∙ other)))
      where
        same : Some e ≡ Some d → d.place ≡ e.place
        same is = let both : d ≡ e = cc is in ap (λ (x : Exchange). x.place) both

-- ---- no exchange stands twice in a line

pub few_on : (k n : ℕ) (es : List Entry) → count_by (λ m. m == n) (line_of k es) ≤ count_by (is_entry n) es
few_on k n [] = omega arith
few_on k n (e ∷ es) = subst (λ (ns : List ℕ). count_by (λ m. m == n) ns ≤ count_by (is_entry n) (e ∷ es)) (sym (line_first k e es)) (at (is_on k e) (few_on k n es))
  where
    at : (c : Bool) → count_by (λ m. m == n) (line_of k es) ≤ count_by (is_entry n) es → count_by (λ m. m == n) (cond c (e.exchange.number ∷ line_of k es) (line_of k es)) ≤ count_by (is_entry n) (e ∷ es)
    at true less = omega (arith, less, count_first (is_entry n) e es, count_first (λ m. m == n) e.exchange.number (line_of k es))
    at false less = omega (arith, less, count_first (is_entry n) e es)

pub none_counted : (n : ℕ) (ns : List ℕ) → count_by (λ m. m == n) ns ≡ 0 → has_number n ns ≡ false
none_counted n [] none = refl
none_counted n (m ∷ ns) none = by (m == n) (sym (count_first (λ i. i == n) m ns) ∙ none) (none_counted n ns)
  where
    by : (b : Bool) → cond b 1 0 + count_by (λ i. i == n) ns ≡ 0 → (count_by (λ i. i == n) ns ≡ 0 → has_number n ns ≡ false) → b || has_number n ns ≡ false
    by true zero rest = absurd (omega (arith, zero))
    by false zero rest = rest (omega (arith, zero))

distinct : (ns : List ℕ) → ((n : ℕ) → count_by (λ m. m == n) ns ≤ 1) → AreDistinct ns
distinct [] few = tt
distinct (n ∷ ns) few = (none_counted n ns here, distinct ns (λ m. later m (few m)))
  where
    one : cond (n == n) 1 0 + 0 ≡ 1 + 0
    one = ap (λ (b : Bool). cond b 1 0 + 0) (same_itself n)

    here : count_by (λ m. m == n) ns ≡ 0
    here = omega (arith, one, few n, count_first (λ m. m == n) n ns)

    later : (m : ℕ) → count_by (λ i. i == m) (n ∷ ns) ≤ 1 → count_by (λ i. i == m) ns ≤ 1
    later m less = omega (arith, less, count_first (λ i. i == m) n ns)

pub line_distinct : (number : ℕ → ℕ) (l : Leaving) (f : Exchanges) (s : State) (k : Conn) → ShowsFlow number l f s → conn s k.number ≡ Some k → AreDistinct k.line
line_distinct number l f s k shows there = distinct k.line few
  where
    line : line_of k.number f.placed ≡ l k.number ++ k.line
    line = shows.lines k.number ∙ ap (λ (o : Option Conn). l k.number ++ line_in o) there

    few : (n : ℕ) → count_by (λ m. m == n) k.line ≤ 1
    few n =
        omega (
          arith,
          few_on k.number n f.placed,
          few_placed number l f s shows n,
          ap (λ (ns : List ℕ). count_by (λ m. m == n) ns) line,
          count_joined (λ m. m == n) (l k.number) k.line,
        )

-- ---- its pipe is changed

pub piped : (n : ℕ) (line : Line) (ps : List Peer) (peer : Peer) → find (is_number n) ps ≡ Some peer → with_pipe n line ps ≡ with_peer n (record peer { pipe = line }) ps
piped n line [] peer found = refl
piped n line (p ∷ ps) peer found = by (is_number n p) found (piped n line ps peer)
  where
    by : (b : Bool) → cond b (Some p) (find (is_number n) ps) ≡ Some peer → (find (is_number n) ps ≡ Some peer → with_pipe n line ps ≡ with_peer n (record peer { pipe = line }) ps)
        → cond b (record p { pipe = line } ∷ ps) (p ∷ with_pipe n line ps) ≡ cond b (record peer { pipe = line } ∷ ps) (p ∷ with_peer n (record peer { pipe = line }) ps)
    by true is rest = ap (λ (x : Peer). record x { pipe = line } ∷ ps) (let same : p ≡ peer = cc is in same)
    by false is rest = ap (λ (xs : List Peer). p ∷ xs) (rest is)

-- ---- in a state

pub same_some : {A : Type 0} (a b : A) (o : Option A) → o ≡ Some a → o ≡ Some b → b ≡ a
same_some a b o one other = let both : Some b ≡ Some a = sym other ∙ one in cc both

pub on_one : (number : ℕ → ℕ) (name : Bytes) (owed : List Bytes) (l : Leaving) (p : Parts) (s t : State) (peer new : Peer) (k : Conn) (to : Conn → Conn) → ShowsState number name owed l p s → AreApart s → find (is_number k.number) p.peers ≡ Some peer
    → conn s k.number ≡ Some k → AsksOn k.number s t → t.conns ≡ change (is_conn k.number) to s.conns → (ShowsConn s peer k → ShowsConn t new (to k)) → ShowConns t (with_peer k.number new p.peers) t.conns
on_one number name owed l p s t peer new k to shows apart linked there asks conns one =
    subst (λ (ks : List Conn). ShowConns t (with_peer k.number new p.peers) ks) (sym conns)
    (changes_alone s t k.number new to p.peers s.conns (apart k.number) (others_as number l p.flow s t k.number shows.exchanges asks s.conns (all_found s apart)) goes shows.conns)
  where
    goes : (q : Peer) (j : Conn) → find (is_number k.number) p.peers ≡ Some q → find (is_conn k.number) s.conns ≡ Some j → ShowsConn s q j → ShowsConn t new (to j)
    goes q j found is shown =
        let same : j ≡ k = same_some k j (conn s k.number) there is in
        subst (λ (i : Conn). ShowsConn t new (to i)) (sym same)
        (one (subst (λ (i : Conn). ShowsConn s peer i) same (subst (λ (r : Peer). ShowsConn s r j) (same_some peer q (find (is_number k.number) p.peers) linked found) shown)))

-- its pipe alone
pub on_pipe : (number : ℕ → ℕ) (name : Bytes) (owed : List Bytes) (l : Leaving) (p : Parts) (s t : State) (peer : Peer) (line : Line) (k : Conn) (to : Conn → Conn) → ShowsState number name owed l p s → AreApart s → find (is_number k.number) p.peers ≡ Some peer
    → conn s k.number ≡ Some k → AsksOn k.number s t → t.conns ≡ change (is_conn k.number) to s.conns → (ShowsConn s peer k → ShowsConn t (record peer { pipe = line }) (to k)) → ShowConns t (with_pipe k.number line p.peers) t.conns
on_pipe number name owed l p s t peer line k to shows apart linked there asks conns one =
    subst (λ (ps : List Peer). ShowConns t ps t.conns) (sym (piped k.number line p.peers peer linked))
    (on_one number name owed l p s t peer (record peer { pipe = line }) k to shows apart linked there asks conns one)
