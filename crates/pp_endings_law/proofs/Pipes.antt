-- The pipe of a connection that is closing is not read any more.
use Rattle.std.proofs.Common.{◌≡◌, refl, sym, ap, ◌∙◌, ℕ, Bool, true, false, not, ◌&&◌, cond, find, List, [], ◌∷◌, Some, Option}
use Rattle.std.specs.Prelude.{option_map}
use Rattle.pp_cache_law.proofs.Finds.{find_passes}
use Rattle.pp_desk.specs.Closings.{Sides, closed_conn, closed_line, closing}
use Rattle.pp_law.specs.State.{State, Conn}
use Rattle.pp_peers.specs.Peers.{is_number, with_peer, with_pipe}
use Rattle.pp_peers.specs.declared.peers.Peer.{Peer}
use Rattle.pp_peers_law.specs.Peers.{ShowConns, ShowsConn}
use Rattle.pp_pipe.specs.Line.{Line}
use Rattle.pp_state.specs.Ends.{Parts}
use Rattle.pp_state.specs.Lines.{lost_line}

-- ---- it is set

pub pipe_found : (n : ℕ) (line : Line) (ps : List Peer) → find (is_number n) (with_pipe n line ps) ≡ option_map (λ (p : Peer). let q : Peer = record p { pipe = line } in q) (find (is_number n) ps)
pipe_found n line [] = refl
pipe_found n line (p ∷ ps) = by (is_number n p) refl (pipe_found n line ps)
  where
    by : (b : Bool) → is_number n p ≡ b → find (is_number n) (with_pipe n line ps) ≡ option_map (λ (p : Peer). let q : Peer = record p { pipe = line } in q) (find (is_number n) ps)
        → find (is_number n) (cond b ((let q : Peer = record p { pipe = line } in q) ∷ ps) (p ∷ with_pipe n line ps)) ≡ option_map (λ (p : Peer). let q : Peer = record p { pipe = line } in q) (cond b (Some p) (find (is_number n) ps))
    by true is rest = ap (λ (b : Bool). cond b (Some (let q : Peer = record p { pipe = line } in q)) (find (is_number n) ps)) is
    by false off rest = ap (λ (b : Bool). cond b (Some p) (find (is_number n) (with_pipe n line ps))) off ∙ rest

pub peer_over : (n : ℕ) (line : Line) (new : Peer) (ps : List Peer) → with_peer n new (with_pipe n line ps) ≡ with_peer n new ps
peer_over n line new [] = refl
peer_over n line new (p ∷ ps) = by (is_number n p) refl (peer_over n line new ps)
  where
    by : (b : Bool) → is_number n p ≡ b → with_peer n new (with_pipe n line ps) ≡ with_peer n new ps → with_peer n new (cond b ((let q : Peer = record p { pipe = line } in q) ∷ ps) (p ∷ with_pipe n line ps)) ≡ cond b (new ∷ ps) (p ∷ with_peer n new ps)
    by true is rest = ap (λ (b : Bool). cond b (new ∷ ps) ((let q : Peer = record p { pipe = line } in q) ∷ with_peer n new ps)) is
    by false off rest = ap (λ (b : Bool). cond b (new ∷ with_pipe n line ps) (p ∷ with_peer n new (with_pipe n line ps))) off ∙ ap (λ (qs : List Peer). p ∷ qs) rest

-- ---- it may be any

abbrev pub with_line : Line → Peer → Peer
with_line line peer = record peer { pipe = line }

conn_beside : (s : State) (p : Peer) (k : Conn) (line : Line) → p.is_closing ≡ true → ShowsConn s p k → ShowsConn s (with_line line p) k
conn_beside s p k line closing shows = record {
  number = shows.number;
  host = shows.host;
  port = shows.port;
  is_reached = shows.is_reached;
  has_brought = shows.has_brought;
  may_pipeline = λ opens. absurd (let bad : true ≡ false = sym closing ∙ shows.is_closing ∙ opens in cc bad);
  is_closing = shows.is_closing;
  stays = shows.stays;
  mark = shows.mark;
  has_waited = shows.has_waited;
  pipe = λ opens. absurd (let bad : true ≡ false = sym closing ∙ shows.is_closing ∙ opens in cc bad);
}

pub conns_beside : (s : State) (n : ℕ) (p : Peer) (line : Line) → p.is_closing ≡ true → (ps : List Peer) (ks : List Conn) → ShowConns s (with_peer n p ps) ks → ShowConns s (with_peer n (with_line line p) ps) ks
conns_beside s n p line closing [] ks shows = shows
conns_beside s n p line closing (q ∷ ps) [] shows = by (is_number n q) shows
  where
    by : (b : Bool) → ShowConns s (cond b (p ∷ ps) (q ∷ with_peer n p ps)) [] → ShowConns s (cond b (with_line line p ∷ ps) (q ∷ with_peer n (with_line line p) ps)) []
    by true shown = shown
    by false shown = shown
conns_beside s n p line closing (q ∷ ps) (k ∷ ks) shows = by (is_number n q) shows (λ rest. conns_beside s n p line closing ps ks rest)
  where
    by : (b : Bool) → ShowConns s (cond b (p ∷ ps) (q ∷ with_peer n p ps)) (k ∷ ks) → (ShowConns s (with_peer n p ps) ks → ShowConns s (with_peer n (with_line line p) ps) ks)
        → ShowConns s (cond b (with_line line p ∷ ps) (q ∷ with_peer n (with_line line p) ps)) (k ∷ ks)
    by true shown rest = (conn_beside s p k line closing shown.0, shown.1)
    by false shown rest = (shown.0, rest shown.1)

-- ---- it is closed with it

abbrev pub closing_as : Peer → Peer
closing_as peer = record peer { is_closing = true }

abbrev closed_by : ℕ → Bool → List Peer → Parts → Option Peer → Sides
closed_by n counts peers p o = record { parts = closed_line n counts o p; peers = closing n o peers }

-- one that goes on
pub closed_is : (n : ℕ) (counts : Bool) (p : Parts) (peers : List Peer) (peer : Peer) → find (is_number n) peers ≡ Some peer → peer.is_closing ≡ false
    → closed_conn n counts (record { parts = p; peers = peers }) ≡ record { parts = lost_line 1024 n (counts && not peer.has_brought) p; peers = with_peer n (closing_as peer) peers }
closed_is n counts p peers peer there opens =
    ap (λ (o : Option Peer). closed_by n counts peers p o) there
    ∙ ap (λ (b : Bool). let y : Sides = record { parts = cond b p (lost_line 1024 n (counts && not peer.has_brought) p); peers = cond b peers (with_peer n (closing_as peer) peers) } in y) opens

-- one that is closing already
pub closed_again : (n : ℕ) (counts : Bool) (x : Sides) (peer : Peer) → find (is_number n) x.peers ≡ Some peer → peer.is_closing ≡ true → closed_conn n counts x ≡ x
closed_again n counts x peer there closes =
    ap (λ (o : Option Peer). closed_by n counts x.peers x.parts o) there
    ∙ ap (λ (b : Bool). let y : Sides = record { parts = cond b x.parts (lost_line 1024 n (counts && not peer.has_brought) x.parts); peers = cond b x.peers (with_peer n (closing_as peer) x.peers) } in y) closes

pub numbered : (n : ℕ) (peer : Peer) (ps : List Peer) → find (is_number n) ps ≡ Some peer → is_number n peer ≡ true
numbered n peer ps there = find_passes (is_number n) ps peer there
