-- What becomes of a line where its response is whole, or is none, and where its connection ended (RFC 2616, sections 4.4, 8.1 and
-- 10.1).
use Rattle.std.specs.Prelude.{ℕ, Bool, true, false, ◌&&◌, not, List, Option, Some, None, option_and_then}
use Rattle.std.specs.List.{find}
use Rattle.pp_flow.specs.Changes.{entry_of}
use Rattle.pp_flow.specs.declared.entry.Entry.{Entry}
use Rattle.pp_flow.specs.declared.entry.Exchange.{Exchange}
use Rattle.pp_framing.specs.declared.body.Ending.{Ending}
use Rattle.pp_framing.specs.declared.body.Ending.TheVariants.{Whole, Short}
use Rattle.pp_peers.specs.Peers.{is_number, with_peer, with_pipe}
use Rattle.pp_peers.specs.declared.peers.Peer.{Peer}
use Rattle.pp_pipe.specs.Line.{ended_with}
use Rattle.pp_pipe.specs.Reading.{ending_at}
use Rattle.pp_desk.specs.Closings.{Sides, closed_conn, with_parts}
use Rattle.pp_state.specs.Asking.{is_outstanding}
use Rattle.pp_state.specs.Bodies.{finished_for, on_asker, room_for, without_exchange}
use Rattle.pp_state.specs.Ends.{Parts, ended, exchange_at, failed, lost_attempt}
use Rattle.pp_steps.specs.Lines.{first_on}
use Rattle.pp_decide.specs.Patience.{may_go_on}

-- ---- how much is read at once: no more than the pipe of the first exchange's client has room for

abbrev pub room_by : Option Exchange → Parts → ℕ
room_by None p = 32768
room_by (Some e) p = room_for e 32768 p.seats

abbrev pub room_on : Option ℕ → Parts → ℕ
room_on None p = 32768
room_on (Some number) p = room_by (exchange_at number p.flow) p

abbrev pub read_room : ℕ → Parts → ℕ
read_room k p = room_on (first_on k p) p

-- ---- a response is whole

abbrev pub finished : Exchange → Parts → Parts
finished e p = record p { seats = on_asker e (finished_for e.aim) p.seats; flow = without_exchange e.number p.flow }

-- it brought a whole response
abbrev pub brought_by : ℕ → Option Peer → List Peer → List Peer
brought_by k None peers = peers
brought_by k (Some peer) peers = with_peer k (record peer { has_brought = true }) peers

abbrev pub goes_on_by : Option Peer → ℕ → Bool → Bool
goes_on_by None body_left binds_connection = true
goes_on_by (Some peer) body_left binds_connection = may_go_on peer.stays body_left binds_connection

abbrev pub closed_unless : Bool → ℕ → Sides → Sides
closed_unless true k x = x
closed_unless false k x = closed_conn k true x

-- the connection goes on or is closed
abbrev pub gone_on : ℕ → ℕ → Bool → Sides → Sides
gone_on k body_left binds_connection x =
    closed_unless (goes_on_by (find (is_number k) x.peers) body_left binds_connection) k (record x { peers = brought_by k (find (is_number k) x.peers) x.peers })

abbrev pub whole_for : ℕ → Option Entry → Sides → Sides
whole_for k None x = x
whole_for k (Some e) x = gone_on k e.errand.body_left e.errand.binds_connection (with_parts (finished e.exchange) x)

-- to the first exchange of the line
abbrev pub response_whole : ℕ → Sides → Sides
response_whole k x = whole_for k (option_and_then (λ number. entry_of number x.parts.flow) (first_on k x.parts)) x

-- ---- a response outside the grammar, or one that its ask did not allow

abbrev pub has_brought_in : Option Peer → Bool
has_brought_in None = false
has_brought_in (Some peer) = peer.has_brought

-- behind a whole response a head may be the rest of that: it costs an attempt. Any other ends its request's attempts
abbrev pub charged_by : Bool → ℕ → Exchange → Parts → Parts
charged_by true number e p = lost_attempt e p
charged_by false number e p = ended number (failed e p)

abbrev pub bad_answer : ℕ → ℕ → Exchange → Sides → Sides
bad_answer k number e x = closed_conn k false (with_parts (charged_by (not e.headed && has_brought_in (find (is_number k) x.peers)) number e) x)

-- what comes before the first ask of the line was asked whole answers nobody
abbrev pub bad_by : Bool → ℕ → ℕ → Exchange → Sides → Sides
bad_by true k number e x = bad_answer k number e x
bad_by false k number e x = closed_conn k true x

abbrev pub bad_for : ℕ → ℕ → Option Entry → Sides → Sides
bad_for k number None x = closed_conn k false x
bad_for k number (Some e) x = bad_by (is_outstanding e) k number e.exchange x

abbrev pub bad_on : ℕ → Option ℕ → Sides → Sides
bad_on k None x = closed_conn k false x
bad_on k (Some number) x = bad_for k number (entry_of number x.parts.flow) x

abbrev pub bad_response : ℕ → Sides → Sides
bad_response k x = bad_on k (first_on k x.parts) x

-- ---- the origin ended, or its connection broke: a clean end may end a body

abbrev pub whole_where : Ending → ℕ → Sides → Sides
whole_where Whole k x = response_whole k x
whole_where Short k x = x

abbrev pub ending_by : Bool → Option Peer → Ending
ending_by is_clean None = Short
ending_by is_clean (Some peer) = ending_at is_clean peer.pipe.reading

abbrev pub ended_by : Bool → ℕ → Option Peer → List Peer → List Peer
ended_by is_clean k None peers = peers
ended_by is_clean k (Some peer) peers = with_pipe k (ended_with (ending_at is_clean peer.pipe.reading) peer.pipe) peers

abbrev pub origin_gone : Bool → ℕ → Sides → Sides
origin_gone is_clean k x =
    closed_conn k true (whole_where (ending_by is_clean (find (is_number k) x.peers)) k (record x { peers = ended_by is_clean k (find (is_number k) x.peers) x.peers }))
