-- What the operator's log is told of a reply (ours): what it is made of, and its status.
use Rattle.std.specs.Prelude.{ℕ, List, Some, None, slice_get, slice_set}
use Rattle.pp_reply.specs.declared.kept.KeptReply.{KeptReply}
use Rattle.pp_reply.specs.declared.kept.KeptReply.TheVariants.{Whole, Part, Head, NotModified, Unsatisfiable}
use Rattle.pp_seats.specs.declared.account.Account.{Account}
use Rattle.pp_flow.specs.declared.entry.Aim.{Aim}
use Rattle.pp_flow.specs.declared.entry.Aim.TheVariants.{Own, Hole, Pass as Through}
use Rattle.pp_flow.specs.declared.entry.Exchange.{Exchange}
use Rattle.pp_seats.specs.Accounts.{brought}
use Rattle.pp_seats.specs.declared.seat.Seat.{Seat}
use Rattle.pp_world.specs.declared.access.Source.{Source}
use Rattle.pp_state.specs.Bodies.{on_asker}

-- the status line of each (RFC 2616, section 10)
abbrev pub status_of : KeptReply → ℕ
status_of Whole = 200
status_of (Part from to) = 206
status_of Head = 200
status_of NotModified = 304
status_of Unsatisfiable = 416

-- ---- the account of one client

-- of the client at this place, where there is one
abbrev pub accounts_at : ℕ → (Account → Account) → List Seat → List Seat
accounts_at i f seats = elim (slice_get seats i) [ None ↦ seats | Some seat ↦ slice_set seats i (record seat { account = f seat.account }) ]

-- ---- what the exchange of a request itself brought

abbrev pub with_source : Source → Seat → Seat
with_source source seat = record seat { account = brought source seat.account }

-- one of a follower brings the rest of what is there
abbrev pub brought_by : Aim → Exchange → Source → List Seat → List Seat
brought_by Own e source seats = on_asker e (with_source source) seats
brought_by (Hole v from to) e source seats = seats
brought_by Through e source seats = seats
