-- A connection is dialled, and one is dropped.
use Rattle.std.proofs.Common.{◌≡◌, ◌≤◌, ◌+◌, refl, sym, ap, ◌∙◌, ℕ, Bool, true, false, not, ◌==◌, cond, filter, List, [], ◌∷◌, ◌++◌, arith}
use Rattle.std.specs.Prelude.{count_by}
use Rattle.pp_cache_law.proofs.Framing.{frames_of, the_same}
use Rattle.pp_cache_law.proofs.PairLemmas.{count_first, joined_none}
use Rattle.pp_flow_law.proofs.Framed.{dials as flow_dials, drops as flow_drops, frames as flow_frames}
use Rattle.pp_flow_law.specs.Frames.{still}
use Rattle.pp_flow_law.specs.Tables.{Leaving, ShowsFlow, line_at}
use Rattle.pp_law.specs.After.{new_conn, out}
use Rattle.pp_law.specs.Connections.{exchange, is_conn}
use Rattle.pp_law.specs.Lists.{Bytes}
use Rattle.pp_law.specs.State.{State, Conn}
use Rattle.pp_peers.specs.Peers.{is_number, unused, without}
use Rattle.pp_peers.specs.declared.peers.Peer.{Peer}
use Rattle.pp_peers_law.specs.Peers.{ShowsConn, ShowConns}
use Rattle.pp_states_law.specs.Asks.{AllAreAskedAs}
use Rattle.pp_states_law.specs.Dials.{DialsAreTheLaws, DropsAreTheLaws, EmptyDropsAreTheLaws}
use Rattle.pp_states_law.specs.States.{Parts, ShowsState}
use Rattle.pp_states_law.proofs.Asked.{all_as, conn_again, frames, itself}
use Rattle.pp_states_law.proofs.Framed.{states}

-- ---- one is dialled

new_shown : (s : State) (n port now : ℕ) (host : Bytes) → ShowsConn s (unused n host port now) (new_conn n host port now)
new_shown s n port now host = record {
  number = refl;
  host = refl;
  port = refl;
  is_reached = refl;
  has_brought = refl;
  may_pipeline = λ goes. refl;
  is_closing = refl;
  stays = λ goes. tt;
  mark = refl;
  has_waited = refl;
  pipe = λ goes. record { line = tt; stray = refl; out = refl; reading = refl; none_alone = λ may. absurd cc };
}

one_more : (s : State) (ps : List Peer) (ks : List Conn) (p : Peer) (k : Conn) → ShowConns s ps ks → ShowsConn s p k → ShowConns s (ps ++ p ∷ []) (ks ++ k ∷ [])
one_more s [] [] p k shows one = (one, tt)
one_more s [] (j ∷ ks) p k shows one = absurd shows
one_more s (q ∷ ps) [] p k shows one = absurd shows
one_more s (q ∷ ps) (j ∷ ks) p k shows one = (shows.0, one_more s ps ks p k shows.1 one)

abbrev with_conn : Conn → State → State
with_conn k s = record s { conns = s.conns ++ k ∷ [] }

pub dials : DialsAreTheLaws
dials number name owed l p s shows n port host none =
    states number name owed l (record p { peers = p.peers ++ unused n host port s.clock ∷ [] }) (with_conn new s) there (record s { conns = s.conns ++ new ∷ []; top = n })
    (record { clients = refl; conns = refl; exchanges = refl; next_exchange = refl; instances = refl; next_instance = refl; chunks = refl; kept = λ x. refl })
  where
    new : Conn
    new = new_conn n host port s.clock

    there : ShowsState number name owed l (record p { peers = p.peers ++ unused n host port s.clock ∷ [] }) (with_conn new s)
    there = record {
      clients = shows.clients;
      exchanges = flow_dials number l p.flow s shows.exchanges new none refl;
      table =
          frames_of number p.memory s shows.table p.memory (with_conn new s) (record { instances = refl; lives = refl; chunks = refl; extents = refl })
          (record { instances = refl; made = the_same s.next_instance; chunks = refl; followers = λ id. refl; kept = λ x. refl });
      conns =
          one_more (with_conn new s) p.peers s.conns (unused n host port s.clock) new (frames s (with_conn new s) p.peers s.conns (all_as s (with_conn new s) (λ m. itself (exchange s m)) s.conns) shows.conns)
          (new_shown (with_conn new s) n port s.clock host);
    }

-- ---- one is dropped

abbrev others : ℕ → List Conn → List Conn
others n ks = filter (λ k. not (is_conn n k)) ks

none_out : (s t : State) (n : ℕ) (ps : List Peer) (ks : List Conn) → count_by (is_conn n) ks ≡ 0 → AllAreAskedAs s t ks → ShowConns s ps ks → ShowConns t ps (others n ks)
none_out s t n [] [] none same shows = tt
none_out s t n [] (k ∷ ks) none same shows = absurd shows
none_out s t n (p ∷ ps) [] none same shows = absurd shows
none_out s t n (p ∷ ps) (k ∷ ks) none same shows = by (is_conn n k) (sym (count_first (is_conn n) k ks) ∙ none) (none_out s t n ps ks)
  where
    by : (b : Bool) → cond b 1 0 + count_by (is_conn n) ks ≡ 0 → (count_by (is_conn n) ks ≡ 0 → AllAreAskedAs s t ks → ShowConns s ps ks → ShowConns t ps (others n ks)) → ShowConns t (p ∷ ps) (cond (not b) (k ∷ others n ks) (others n ks))
    by true few rest = absurd (omega (arith, few))
    by false few rest = (conn_again s t p k same.0 shows.0, rest (omega (arith, few)) same.1 shows.1)

one_out : (s t : State) (n : ℕ) (ps : List Peer) (ks : List Conn) → count_by (is_conn n) ks ≤ 1 → AllAreAskedAs s t ks → ShowConns s ps ks → ShowConns t (without n ps) (others n ks)
one_out s t n [] [] few same shows = tt
one_out s t n [] (k ∷ ks) few same shows = absurd shows
one_out s t n (p ∷ ps) [] few same shows = absurd shows
one_out s t n (p ∷ ps) (k ∷ ks) few same shows =
    by (is_number n p) (is_conn n k) (ap (λ (m : ℕ). m == n) shows.0.number) (let e : cond (is_conn n k) 1 0 + count_by (is_conn n) ks ≤ 1 = omega (arith, few, count_first (is_conn n) k ks) in e) (λ less. one_out s t n ps ks less same.1 shows.1)
  where
    by : (b c : Bool) → b ≡ c → cond c 1 0 + count_by (is_conn n) ks ≤ 1 → (count_by (is_conn n) ks ≤ 1 → ShowConns t (without n ps) (others n ks)) → ShowConns t (cond b ps (p ∷ without n ps)) (cond (not c) (k ∷ others n ks) (others n ks))
    by true true is less rest = none_out s t n ps ks (omega (arith, less)) same.1 shows.1
    by true false is less rest = absurd cc
    by false true is less rest = absurd cc
    by false false is less rest = (conn_again s t p k same.0 shows.0, rest (omega (arith, less)))

dropped : (number : ℕ → ℕ) (name : Bytes) (owed : List Bytes) (l o : Leaving) (p : Parts) (s : State) (n : ℕ) → ShowsState number name owed l p s → count_by (is_conn n) s.conns ≤ 1 → ShowsFlow number o p.flow (out n s)
    → ShowsState number name owed o (record p { peers = without n p.peers }) (out n s)
unfolding out
dropped number name owed l o p s n shows few flow = record {
  clients = shows.clients;
  exchanges = flow;
  table =
      frames_of number p.memory s shows.table p.memory (out n s) (record { instances = refl; lives = refl; chunks = refl; extents = refl })
      (record { instances = refl; made = the_same s.next_instance; chunks = refl; followers = λ id. refl; kept = λ x. refl });
  conns = one_out s (out n s) n p.peers s.conns few (all_as s (out n s) (λ m. itself (exchange s m)) s.conns) shows.conns;
}

pub drops : DropsAreTheLaws
drops number name owed l p s shows n few = dropped number name owed l (still n (line_at s n) l) p s n shows few (flow_drops number l p.flow s shows.exchanges n)

pub empty_drops : EmptyDropsAreTheLaws
empty_drops number name owed l p s shows n few empty =
    dropped number name owed l l p s n shows few
    (flow_frames number (still n (line_at s n) l) p.flow (out n s) (flow_drops number l p.flow s shows.exchanges n) l (out n s) (record { exchanges = refl; next = refl; lines = λ m. ap (λ (ns : List ℕ). ns ++ line_at (out n s) m) (sym (none m)) }))
  where
    by : (m : ℕ) (b : Bool) → cond b (l m ++ line_at s n) (l m) ≡ l m
    by m true = ap (λ (ns : List ℕ). l m ++ ns) empty ∙ joined_none (l m)
    by m false = refl

    none : (m : ℕ) → still n (line_at s n) l m ≡ l m
    none m = by m (m == n)
