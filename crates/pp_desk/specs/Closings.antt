-- What closings change (RFC 2616, sections 8.1 and 8.1.4). Asks are placed behind all of them.
use Rattle.std.specs.Prelude.{◌≡◌, ℕ, Bool, true, false, ◌==◌, ◌&&◌, not, if◌then◌else◌, List, map, Option, Some, None, option_map}
use Rattle.std.specs.List.{find, list_any}
use Rattle.pp_flow.specs.Changes.{Exchanges, entry_of, line_of}
use Rattle.pp_flow.specs.declared.entry.Exchange.{Exchange}
use Rattle.pp_flow.specs.declared.errand.Errand.{Errand}
use Rattle.pp_peers.specs.Peers.{is_number, with_peer, with_pipe}
use Rattle.pp_peers.specs.declared.peers.Peer.{Peer}
use Rattle.pp_pipe.specs.Line.{Line, is_begun_at, withdrawn_where}
use Rattle.pp_desk.specs.declared.desk.Desk.{Desk}
use Rattle.pp_state.specs.Ends.{Parts, ended, exchange_of, forsaken, left_source, on_seat, parts, place_of}
use Rattle.pp_state.specs.Lines.{lost_line}

-- ---- what changes together: clients, exchanges and what is in memory; and the connections to origins

pub record Sides : Type 0 where
  pub parts : Parts
  pub peers : List Peer

abbrev pub sides : Desk → Sides
sides d = record { parts = parts d.state; peers = d.peers }

abbrev pub with_parts : (Parts → Parts) → Sides → Sides
with_parts f x = record x { parts = f x.parts }

-- all else stays
abbrev pub KeepsDesk : Desk → Desk → Type 0
KeepsDesk old new = record new { state = record new.state { seats = old.state.seats; flow = old.state.flow; cache = old.state.cache; refused = old.state.refused; is_astray = old.state.is_astray }; peers = old.peers } ≡ old

-- one after the other, where it is there
abbrev pub where_there : {A : Type 0} → (A → ℕ → A) → A → Option ℕ → A
where_there step x None = x
where_there step x (Some n) = step x n

-- ---- a connection's cause to be closed has come

-- and it is not closed yet
abbrev pub has_closing : List Peer → Bool
has_closing peers = list_any (λ p. p.is_closing) peers

-- where it has not come yet
abbrev pub closing : ℕ → Option Peer → List Peer → List Peer
closing k None peers = peers
closing k (Some peer) peers = if peer.is_closing then peers else with_peer k (record peer { is_closing = true }) peers

-- "Client software SHOULD reopen the transport connection and retransmit the aborted sequence of requests"; ours: an attempt is lost
-- where the connection never brought a whole response. At most 1,024 exchanges are there
abbrev pub closed_line : ℕ → Bool → Option Peer → Parts → Parts
closed_line k counts None p = p
closed_line k counts (Some peer) p = if peer.is_closing then p else lost_line 1024 k (counts && not peer.has_brought) p

abbrev pub closed_conn : ℕ → Bool → Sides → Sides
closed_conn k counts x = record { parts = closed_line k counts (find (is_number k) x.peers) x.parts; peers = closing k (find (is_number k) x.peers) x.peers }

abbrev pub peer_numbers : List Peer → List ℕ
peer_numbers peers = map (λ peer. peer.number) peers

-- with an exchange of its line, which is over
abbrev pub dropped_with : ℕ → ℕ → Sides → Sides
dropped_with number k x = closed_conn k false (with_parts (ended number) x)

-- ---- an exchange of which nothing was asked leaves its line

-- the ask that stands there is taken out, where no byte of it was written
abbrev pub unasked_in : Option Bool → ℕ → Line → Line
unasked_in None place line = line
unasked_in (Some is_begun) place line = withdrawn_where (not is_begun) place line

abbrev pub unasked : ℕ → Line → Line
unasked place line = unasked_in (is_begun_at place line.asks) place line

abbrev pub unasked_of : ℕ → ℕ → Option Peer → List Peer → List Peer
unasked_of k place None peers = peers
unasked_of k place (Some peer) peers = with_pipe k (unasked place peer.pipe) peers

abbrev pub unasked_at : ℕ → Option ℕ → List Peer → List Peer
unasked_at k None peers = peers
unasked_at k (Some place) peers = unasked_of k place (find (is_number k) peers) peers

-- where it stands in the line
abbrev pub place_on : ℕ → ℕ → Exchanges → Option ℕ
place_on k number f = place_of number (line_of k f.placed)

abbrev pub withdrawn : ℕ → ℕ → Sides → Sides
withdrawn number k x = record { parts = ended number x.parts; peers = unasked_at k (place_on k number x.parts.flow) x.peers }

-- ---- a client's cause to be closed has come

-- it follows nothing any more
abbrev pub closing_at : ℕ → Parts → Parts
closing_at i p = on_seat i (λ seat. record seat { is_closing = true }) (left_source i p)

-- an exchange of which something was asked is nobody's
abbrev pub left_on : ℕ → ℕ → Errand → ℕ → Sides → Sides
left_on i number errand k x = if errand.asked == 0 then withdrawn number k x else with_parts (forsaken i) x

abbrev pub left_at : ℕ → ℕ → Errand → Option ℕ → Sides → Sides
left_at i number errand None x = with_parts (ended number) x
left_at i number errand (Some k) x = left_on i number errand k x

abbrev pub left_by_errand : ℕ → Exchange → Option Errand → Sides → Sides
left_by_errand i e None x = x
left_by_errand i e (Some errand) x = left_at i e.number errand e.place x

abbrev pub left_ask : ℕ → Exchange → Sides → Sides
left_ask i e x = left_by_errand i e (option_map (λ entry. entry.errand) (entry_of e.number x.parts.flow)) x

abbrev pub left_own : ℕ → Option Exchange → Sides → Sides
left_own i None x = x
left_own i (Some e) x = left_ask i e x

abbrev pub closed_client : ℕ → Sides → Sides
closed_client i x = left_own i (exchange_of i (closing_at i x.parts)) (with_parts (closing_at i) x)
