-- One exchange is changed where it stands, or is over.
use Rattle.std.proofs.Common.{◌≡◌, refl, sym, subst, ap, ◌∙◌, ℕ, Bool, false, not, ◌==◌, cond, filter, map, List, [], ◌∷◌, Option}
use Rattle.pp_cache_law.proofs.Framing.{frames_of, the_same}
use Rattle.pp_cache_law.specs.Pairs.{AreBoth}
use Rattle.pp_cache_law.specs.Tables.{ShowsCache}
use Rattle.pp_flow.specs.Changes.{without as without_number}
use Rattle.pp_flow_law.specs.Changes.{but}
use Rattle.pp_flow_law.specs.Tables.{Leaving}
use Rattle.pp_flow_law.proofs.Ended.{ends as flow_ends}
use Rattle.pp_flow_law.proofs.Turned.{leaves as flow_leaves}
use Rattle.pp_law.specs.Closing.{left_alone}
use Rattle.pp_law.specs.Connections.{end_exchange, exchange, on_exchange, without_ask, unplaced}
use Rattle.pp_law.specs.Lists.{Bytes, has_number}
use Rattle.pp_law.specs.State.{State, Conn, Exchange}
use Rattle.pp_peers.specs.declared.peers.Peer.{Peer}
use Rattle.pp_peers_law.proofs.Finds.{find_without, no_or, other_way, find_elsewhere}
use Rattle.pp_peers_law.specs.Peers.{ShowsConn, ShowConns, ShowsPipe}
use Rattle.pp_states_law.specs.Asks.{AreAskedAs, IsAskedAs, AllAreAskedAs}
use Rattle.pp_states_law.specs.Exchanges.{EndsAreTheLaws, LeavesAreTheLaws, StandsNowhere, UnplacesAreTheLaws}
use Rattle.pp_states_law.specs.States.{Parts, ShowsState}
use Rattle.pp_states_law.proofs.Asked.{all_as, frames, itself, one_as, pipe_again}
use Rattle.pp_flow_law.proofs.Unplaced.{unplaces as flow_unplaces}

pub leaves : LeavesAreTheLaws
unfolding on_exchange
leaves number name owed l p s shows n = record {
  clients = shows.clients;
  exchanges = flow_leaves number l p.flow s shows.exchanges n;
  table =
      frames_of number p.memory s shows.table p.memory (on_exchange n left_alone s) (record { instances = refl; lives = refl; chunks = refl; extents = refl })
      (record { instances = refl; made = the_same s.next_instance; chunks = refl; followers = λ id. refl; kept = λ x. refl });
  conns =
      frames s (on_exchange n left_alone s) p.peers s.conns
      (all_as s (on_exchange n left_alone s) (λ m. one_as n m left_alone (λ e. refl) (λ e. record { to_head = refl; asked = refl; text = refl; alone = refl }) s.exchanges) s.conns) shows.conns;
}

-- ---- it is over

pub gone : (s : State) (n m : ℕ) → (n == m) ≡ false → exchange (end_exchange n s) m ≡ exchange s m
unfolding end_exchange
gone s n m isnt = find_without n m isnt s.exchanges

pub none_out : (n : ℕ) (line : List ℕ) → has_number n line ≡ false → filter (λ m. not (m == n)) line ≡ line
none_out n [] none = refl
none_out n (m ∷ line) none =
    let these : ((m == n) ≡ false) × (has_number n line ≡ false) = no_or (m == n) (has_number n line) none in
    ap (λ (b : Bool). cond (not b) (m ∷ filter (λ i. not (i == n)) line) (filter (λ i. not (i == n)) line)) these.0 ∙ ap (λ (ns : List ℕ). m ∷ ns) (none_out n line these.1)

pub as_before : (o u : Option Exchange) → u ≡ o → AreBoth IsAskedAs o u
as_before o u same = subst (λ (x : Option Exchange). AreBoth IsAskedAs o x) (sym same) (itself o)

pub asked_on : (s : State) (n : ℕ) (line : List ℕ) → has_number n line ≡ false → AreAskedAs s (end_exchange n s) line
asked_on s n [] none = tt
asked_on s n (m ∷ line) none =
    let these : ((m == n) ≡ false) × (has_number n line ≡ false) = no_or (m == n) (has_number n line) none in
    (as_before (exchange s m) (exchange (end_exchange n s) m) (gone s n m (other_way m n these.0)), asked_on s n line these.1)

pipe_on : (s : State) (n : ℕ) (p : Peer) (k : Conn) → has_number n k.line ≡ false → ShowsPipe s p k → ShowsPipe (end_exchange n s) p (without_ask n k)
pipe_on s n p k none shows =
    subst (λ (line : List ℕ). ShowsPipe (end_exchange n s) p (record k { line = line })) (sym (none_out n k.line none)) (pipe_again s (end_exchange n s) p k (asked_on s n k.line none) shows)

conn_on : (s : State) (n : ℕ) (p : Peer) (k : Conn) → (k.is_closing ≡ false → has_number n k.line ≡ false) → ShowsConn s p k → ShowsConn (end_exchange n s) p (without_ask n k)
conn_on s n p k none shows = record {
  number = shows.number;
  host = shows.host;
  port = shows.port;
  is_reached = shows.is_reached;
  has_brought = shows.has_brought;
  may_pipeline = shows.may_pipeline;
  is_closing = shows.is_closing;
  stays = shows.stays;
  mark = shows.mark;
  has_waited = shows.has_waited;
  pipe = λ goes. pipe_on s n p k (none goes) (shows.pipe goes);
}

conns_on : (s : State) (n : ℕ) (ps : List Peer) (ks : List Conn) → StandsNowhere n ks → ShowConns s ps ks → ShowConns (end_exchange n s) ps (map (without_ask n) ks)
conns_on s n [] [] none shows = tt
conns_on s n [] (k ∷ ks) none shows = absurd shows
conns_on s n (p ∷ ps) [] none shows = absurd shows
conns_on s n (p ∷ ps) (k ∷ ks) none shows = (conn_on s n p k none.0 shows.0, conns_on s n ps ks none.1 shows.1)

pub the_table : (number : ℕ → ℕ) (name : Bytes) (owed : List Bytes) (l : Leaving) (p : Parts) (s : State) (n : ℕ) → ShowsState number name owed l p s → ShowsCache number p.memory (end_exchange n s)
unfolding end_exchange
the_table number name owed l p s n shows =
    frames_of number p.memory s shows.table p.memory (end_exchange n s) (record { instances = refl; lives = refl; chunks = refl; extents = refl })
    (record { instances = refl; made = the_same s.next_instance; chunks = refl; followers = λ id. refl; kept = λ x. refl })

over : (number : ℕ → ℕ) (name : Bytes) (owed : List Bytes) (l : Leaving) (p : Parts) (s : State) (n : ℕ) → ShowsState number name owed l p s → ShowConns (end_exchange n s) p.peers (map (without_ask n) s.conns)
    → ShowsState number name owed (but n l) (record p { flow = record p.flow { waiting = without_number n p.flow.waiting; placed = without_number n p.flow.placed } }) (end_exchange n s)
unfolding end_exchange
over number name owed l p s n shows these = record {
  clients = shows.clients;
  exchanges = flow_ends number l p.flow s shows.exchanges n;
  table = the_table number name owed l p s n shows;
  conns = these;
}

pub ends : EndsAreTheLaws
ends number name owed l p s shows n none = over number name owed l p s n shows (conns_on s n p.peers s.conns none shows.conns)

-- ---- its place is taken away

elsewhere : (s : State) (n m : ℕ) → (n == m) ≡ false → exchange (on_exchange n unplaced s) m ≡ exchange s m
unfolding on_exchange
elsewhere s n m isnt = find_elsewhere n m unplaced (λ e. refl) isnt s.exchanges

line_without : (s : State) (n : ℕ) (line : List ℕ) → has_number n line ≡ false → AreAskedAs s (on_exchange n unplaced s) line
line_without s n [] none = tt
line_without s n (m ∷ line) none =
    let these : ((m == n) ≡ false) × (has_number n line ≡ false) = no_or (m == n) (has_number n line) none in
    (as_before (exchange s m) (exchange (on_exchange n unplaced s) m) (elsewhere s n m (other_way m n these.0)), line_without s n line these.1)

all_without : (s : State) (n : ℕ) (ks : List Conn) → StandsNowhere n ks → AllAreAskedAs s (on_exchange n unplaced s) ks
all_without s n [] none = tt
all_without s n (k ∷ ks) none = ((λ goes. line_without s n k.line (none.0 goes)), all_without s n ks none.1)

pub unplaces : UnplacesAreTheLaws
unfolding on_exchange
unplaces number name owed l p s shows n x here left none = record {
  clients = shows.clients;
  exchanges = flow_unplaces number l p.flow s shows.exchanges n x here left;
  table =
      frames_of number p.memory s shows.table p.memory (on_exchange n unplaced s) (record { instances = refl; lives = refl; chunks = refl; extents = refl })
      (record { instances = refl; made = the_same s.next_instance; chunks = refl; followers = λ id. refl; kept = λ y. refl });
  conns = frames s (on_exchange n unplaced s) p.peers s.conns (all_without s n s.conns none) shows.conns;
}
