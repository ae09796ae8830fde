-- What nobody will see is not read: its connection is closed, and the others of its line are asked elsewhere (RFC 2616, section 8.1.4).
use Rattle.std.specs.Prelude.{ℕ, Bool, true, false, ◌==◌, ◌&&◌, ◌||◌, not, nat_lt, max, filter_map, length, map, is_some, Option, Some, None}
use Rattle.std.specs.List.{list_any, reduce}
use Rattle.pp_plan.specs.Need.{is_near}
use Rattle.pp_law.specs.Connections.{each_conn, front_of_line, close_conn, end_exchange}
use Rattle.pp_law.specs.Lists.{is_some_with}
use Rattle.pp_law.specs.Responses.{payload_of}
use Rattle.pp_law.specs.Stages.{bound_of, is_through}
use Rattle.pp_law.specs.State.{State, Bound, Pending, Joining, Relaying, Dropping, Client, Conn, Exchange}
use Rattle.pp_law.specs.Table.{next_of, is_soon}

-- ---- how far a body is wanted

-- where a client stands that follows what the exchange is bound to
abbrev pub at_of : State → Bound → Client → Option ℕ
at_of s b c = elim (next_of s c) [ None ↦ None | Some n ↦ elim (n.source.id == b.instance) [ true ↦ Some n.at | false ↦ None ] ]

abbrev pub furthest_at : State → Bound → Option ℕ
furthest_at s b = reduce max (filter_map (at_of s b) s.clients)

-- where the furthest of them stood at the last wait, or the first offset where nobody ever followed
abbrev pub wanted_to : State → Bound → Bound
wanted_to s b = elim (furthest_at s b) [ None ↦ b | Some at ↦ record b { wanted = at } ]

abbrev pub rested_exchange : State → Exchange → Exchange
rested_exchange s e = elim (bound_of e) [ None ↦ e | Some b ↦ record e { body = Joining (wanted_to s b) } ]

-- ---- what is not read on

-- the next byte of a client that follows it comes soon enough
abbrev pub has_reader_near : State → Bound → Bool
has_reader_near s b = list_any (λ c. is_some_with (is_soon b) (at_of s b c)) s.clients

-- what is kept has a reader near, or little of it is left, or where the last of its readers left is near, before it or behind
abbrev pub is_worth_keeping : State → Bound → Bool
is_worth_keeping s b = has_reader_near s b || is_near b.next b.to || (is_near b.wanted b.next && is_near b.next b.wanted)

-- ours: what is dropped as it comes is read for so many bytes, to spare the connection
abbrev pub drop_limit : ℕ
drop_limit = 65536

abbrev pub came_of : Conn → ℕ
came_of k = elim k.answer [ None ↦ 0 | Some a ↦ length (payload_of a) ]

-- of the first exchange of a line
abbrev pub is_unseen : State → Conn → Exchange → Bool
is_unseen s k e = elim e.body [
  | Pending ↦ is_through e && not (is_some e.asker)
  | Joining b ↦ not (is_worth_keeping s b)
  | Relaying ↦ not (is_some e.asker)
  | Dropping ↦ nat_lt drop_limit (came_of k)
]

unfoldable pub drop_on : Conn → State → State
drop_on k s = elim (front_of_line s k) [
  | None ↦ s
  | Some e ↦ elim (is_unseen s k e) [ true ↦ close_conn false k (end_exchange e.number s) | false ↦ s ]
]

unfoldable pub drop_unseen : State → State
drop_unseen s = each_conn drop_on (map (λ k. k.number) s.conns) s
