-- Connections to origins that are given up: what nobody will see is not read on (RFC 2616, section 8.1.4), and who is silent too long
-- is not waited for (ours).
use Rattle.std.specs.Prelude.{ℕ, ◌-◌, Bool, true, false, ◌&&◌, not, nat_le, if◌then◌else◌, Option, Some, None}
use Rattle.std.specs.List.{find, fold}
use Rattle.pp_flow.specs.Changes.{Exchanges}
use Rattle.pp_flow.specs.declared.entry.Exchange.{Exchange}
use Rattle.pp_peers.specs.Peers.{is_number}
use Rattle.pp_peers.specs.declared.peers.Peer.{Peer}
use Rattle.pp_desk.specs.Closings.{Sides, closed_conn, dropped_with, peer_numbers, with_parts}
use Rattle.pp_state.specs.Asking.{owed_answer}
use Rattle.pp_state.specs.Ends.{Parts, failed}
use Rattle.pp_state.specs.Unseen.{unseen_on}

-- ---- what nobody will see of the first exchange of a line: the others of the line are asked elsewhere

abbrev pub unseen_dropped : ℕ → Option ℕ → Sides → Sides
unseen_dropped k None x = x
unseen_dropped k (Some number) x = dropped_with number k x

abbrev pub without_unseen_on : Sides → ℕ → Sides
without_unseen_on x k = unseen_dropped k (unseen_on k x.parts.seats x.parts.flow) x

abbrev pub without_unseen : Sides → Sides
without_unseen x = fold without_unseen_on x (peer_numbers x.peers)

-- ---- who is silent

-- so many seconds: one that owes an answer, and any other
abbrev pub patience : Option Exchange → ℕ
patience None = 60
patience (Some e) = 300

-- while it was waited for
abbrev pub is_idle : ℕ → Exchanges → Peer → Bool
is_idle now f peer = peer.has_waited && nat_le (patience (owed_answer peer.number f)) (now - peer.mark) && not peer.is_closing

abbrev pub is_idle_in : ℕ → Exchanges → Option Peer → Bool
is_idle_in now f None = false
is_idle_in now f (Some peer) = is_idle now f peer

-- what it did not answer is not asked again
abbrev pub unanswered : Option Exchange → Parts → Parts
unanswered None p = p
unanswered (Some e) p = failed e p

abbrev pub patience_ended : ℕ → Parts → Parts
patience_ended k p = unanswered (owed_answer k p.flow) p

abbrev pub given_up : ℕ → Sides → Sides
given_up k x = closed_conn k true (with_parts (patience_ended k) x)

abbrev pub without_idle_on : ℕ → Sides → ℕ → Sides
without_idle_on now x k = if is_idle_in now x.parts.flow (find (is_number k) x.peers) then given_up k x else x

abbrev pub without_idle : ℕ → Sides → Sides
without_idle now x = fold (without_idle_on now) x (peer_numbers x.peers)
