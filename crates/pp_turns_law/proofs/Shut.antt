-- A connection's cause to be closed has come.
use Rattle.std.proofs.Common.{◌≡◌, ◌≤◌, refl, sym, subst, ap, ◌∙◌, ℕ, Bool, true, false, not, ◌&&◌, cond, length, List, [], Option, arith}
use Rattle.pp_flow_law.specs.Tables.{none_leaves}
use Rattle.pp_law.specs.Connections.{close_conn, is_conn}
use Rattle.pp_law.specs.Lists.{Bytes}
use Rattle.pp_law.specs.State.{State, Conn}
use Rattle.pp_peers.specs.Peers.{with_peer}
use Rattle.pp_peers.specs.declared.peers.Peer.{Peer}
use Rattle.pp_desk.specs.Closings.{Sides, closed_line, closing}
use Rattle.pp_state.specs.Lines.{lost_line}
use Rattle.pp_states_law.proofs.Closed.{closes}
use Rattle.pp_states_law.specs.Steps.{ShowsSteps}
use Rattle.pp_turns_law.proofs.Orderly.{closed, found}
use Rattle.pp_turns_law.proofs.Peers.{HasPeer, linked, set_itself}
use Rattle.pp_turns_law.specs.Connections.{ClosingsAreTheLaws}
use Rattle.pp_turns_law.specs.Sides.{IsOrderly}

abbrev pub Steps : (ℕ → ℕ) → Bytes → Sides → State → Type 0
Steps number name x s = ShowsSteps number name none_leaves x.peers x.parts s

abbrev closed_by : ℕ → Bool → Sides → Option Peer → Sides
closed_by n counts x o = record { parts = closed_line n counts o x.parts; peers = closing n o x.peers }

abbrev closed_if : ℕ → Bool → Sides → Peer → Bool → Sides
closed_if n counts x peer b = record {
  parts = cond b x.parts (lost_line 1024 n (counts && not peer.has_brought) x.parts);
  peers = cond b x.peers (with_peer n (record peer { is_closing = true }) x.peers);
}

as_closing : (peer : Peer) → peer.is_closing ≡ true → record peer { is_closing = true } ≡ peer
as_closing peer is = ap (λ (b : Bool). let q : Peer = record peer { is_closing = b } in q) (sym is)

no_line : (k : Conn) → k.line ≡ [] → length k.line ≤ 0
no_line k none = omega (arith, ap (λ (ns : List ℕ). length ns) none)

pub shuts : ClosingsAreTheLaws
shuts number name x s shows n counts k there =
    let one : HasPeer s n x.peers k = linked s n x.peers s.conns k there shows.steps.shows.conns in
    let order : IsOrderly k = found (is_conn n) s.conns k there shows.may.orderly in
    record {
      steps = subst (λ (o : Option Peer). Steps number name (closed_by n counts x o) (close_conn counts k s)) (sym one.there) (by one order one.peer.is_closing refl);
      may = closed counts k s shows.may;
    }
  where
    by : (one : HasPeer s n x.peers k) (order : IsOrderly k) (b : Bool) → one.peer.is_closing ≡ b → Steps number name (closed_if n counts x one.peer b) (close_conn counts k s)
    by one order true is =
        subst (λ (ps : List Peer). ShowsSteps number name none_leaves ps x.parts (close_conn counts k s)) (ap (λ (q : Peer). with_peer n q x.peers) (as_closing one.peer is) ∙ set_itself n one.peer x.peers one.there)
        (closes number name none_leaves x.peers x.parts s shows.steps n 0 counts one.peer k (λ j. refl) shows.may.apart shows.may.go one.there there (no_line k (order.closed (sym one.shows.is_closing ∙ is))))
    by one order false is =
        subst (λ (b : Bool). ShowsSteps number name none_leaves (with_peer n (record one.peer { is_closing = true }) x.peers) (lost_line 1024 n (counts && not b) x.parts) (close_conn counts k s)) (sym one.shows.has_brought)
        (closes number name none_leaves x.peers x.parts s shows.steps n 1024 counts one.peer k (λ j. refl) shows.may.apart shows.may.go one.there there order.few)
