-- What becomes of the line of a connection that is closed (RFC 2616, section 8.1.4).
use Rattle.std.specs.Prelude.{◌≡◌, ◌≤◌, ℕ, Bool, true, ◌&&◌, not, [], length, find, Some}
use Rattle.pp_flow_law.specs.Tables.{none_leaves}
use Rattle.pp_law.specs.Connections.{close_conn, conn, exchange}
use Rattle.pp_law.specs.State.{State, Conn, Exchange}
use Rattle.pp_peers.specs.Peers.{is_number, with_peer}
use Rattle.pp_peers.specs.declared.peers.Peer.{Peer}
use Rattle.pp_states_law.specs.Decisions.{AreApart}
use Rattle.pp_states_law.specs.Charges.{GoesOn, IsFor}
use Rattle.pp_state.specs.Lines.{lost_line}
use Rattle.pp_states_law.specs.Losses.{IsComing}
use Rattle.pp_states_law.specs.Steps.{OfSteps, ShowsSteps}

-- the clients of exchanges go on; where the head of a response came, more of what is passed is to come
pub record AllGo (s : State) : Type 0 where
  pub going : (n : ℕ) (e : Exchange) → exchange s n ≡ Some e → IsFor s e GoesOn
  pub coming : (n : ℕ) (e : Exchange) → exchange s n ≡ Some e → IsFor s e IsComing

-- a connection's cause to be closed has come: its exchanges are over, or asked elsewhere, one behind the other
abbrev pub LinesAreTheLaws : Type 0
LinesAreTheLaws = OfSteps (λ number name l peers p s. (n most : ℕ) (counts : Bool) (peer : Peer) (k : Conn) → ((j : ℕ) → l j ≡ []) → AreApart s → AllGo s → find (is_number n) peers ≡ Some peer → conn s n ≡ Some k → length k.line ≤ most
    → ShowsSteps number name none_leaves (with_peer n (record peer { is_closing = true }) peers) (lost_line most n (counts && not k.has_brought) p) (close_conn counts k s))
