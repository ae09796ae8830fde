-- What has to stand in the wants at the end of a turn, so that nobody waits on nothing. It is ours.
use Rattle.std.specs.Prelude.{ℕ, ◌+◌, ◌/◌, Bool, true, false, ◌==◌, ◌&&◌, ◌||◌, not, nat_lt, nat_le, filter_map, length, Option, Some, None, max, List, [], ◌∷◌}
use Rattle.std.specs.List.{list_any, list_all, reduce}
use Rattle.pp_peers.specs.declared.placing.Placed.{Placed}
use Rattle.pp_peers.specs.declared.placing.Placed.TheVariants.{Wait}
use Rattle.pp_text.specs.Bytes.{is_empty}
use Rattle.pp_world.specs.declared.event.Wants.{Wants}
use Rattle.pp_law.specs.Asking.{has_room, left_to_ask, pipe_room}
use Rattle.pp_law.specs.Chunks.{chunk_len}
use Rattle.pp_law.specs.Connections.{exchange, is_client, is_conn, is_outstanding, front_of_line, place_for}
use Rattle.pp_law.specs.Lists.{has_number, is_some_with, is_this}
use Rattle.pp_law.specs.Offers.{has_to_say}
use Rattle.pp_law.specs.Requests.{has_request}
use Rattle.pp_law.specs.Stages.{bound_of}
use Rattle.pp_law.specs.State.{State, Bound, Client, Conn, Exchange}
use Rattle.pp_law.specs.Table.{Next, instance, next_of, is_held, is_next_held, is_soon}
use Rattle.pp_law.specs.Turn.{waits_for_exchange}
use Rattle.pp_law.specs.Unseen.{at_of}

abbrev pub wants_read : Wants → ℕ → Bool
wants_read w n = has_number n w.read.items

abbrev pub wants_write : Wants → ℕ → Bool
wants_write w n = has_number n w.write.items

abbrev pub same : Bool → Bool → Bool
same true b = b
same false b = not b

-- ours: at most 256 clients
abbrev pub accepts : State → Bool
accepts s = nat_lt (length s.clients) 256

abbrev pub accepts_rightly : State → Wants → Bool
accepts_rightly s w = same (accepts s) w.accept

-- ---- clients

-- it may send its request, or waits for an exchange
abbrev pub is_waiting : State → Wants → Client → Bool
is_waiting s w c = (not (has_request c.front) && wants_read w c.number) || waits_for_exchange s c

abbrev pub is_client_served : State → Wants → Client → Bool
is_client_served s w c = elim (has_to_say s c) [
  | true ↦ wants_write w c.number
  | false ↦ not (wants_write w c.number) && is_waiting s w c
]

-- ---- connections

-- reading stops where the pipe of the request that it is passed to has no room
abbrev pub has_full_pipe : Exchange → Client → Bool
has_full_pipe e c = is_some_with (λ n. n == 0) (pipe_room e c)

-- it was brought what it says next, or waits for it: who reads on elsewhere, far ahead of what comes, is brought nothing
abbrev pub is_brought_to : State → Bound → Next → Bool
is_brought_to s b n = nat_le n.at b.next || (is_soon b n.at && not (is_next_held s n))

abbrev pub read_at : State → Bound → Client → Option ℕ
read_at s b c = elim (is_some_with (is_brought_to s b) (next_of s c)) [ true ↦ at_of s b c | false ↦ None ]

-- where the furthest of its readers stands
abbrev pub furthest_read : State → Bound → Option ℕ
furthest_read s b = reduce max (filter_map (read_at s b) s.clients)

abbrev pub is_held_in : State → Bound → ℕ → Bool
is_held_in s b at = is_some_with (λ x. is_held s x at) (instance s b.instance)

-- ours: 256 chunks past that one, whose next byte is there
abbrev pub is_past : State → Bound → ℕ → Bool
is_past s b at = nat_le (at / chunk_len + 256) (b.next / chunk_len) && is_held_in s b at

abbrev pub is_far_ahead : State → Exchange → Bool
is_far_ahead s e = is_some_with (λ b. is_some_with (is_past s b) (furthest_read s b)) (bound_of e)

-- or far ahead of all its readers
abbrev pub is_stopped : State → Exchange → Bool
is_stopped s e = list_any (has_full_pipe e) s.clients || is_far_ahead s e

abbrev pub is_furthest_in : State → Bound → Client → Bool
is_furthest_in s b c = is_some_with (λ at. is_this at (furthest_read s b)) (read_at s b c)

abbrev pub is_furthest : State → Exchange → Client → Bool
is_furthest s e c = is_far_ahead s e && is_some_with (λ b. is_furthest_in s b c) (bound_of e)

-- it stops for somebody who is written to
abbrev pub is_held_back : State → Wants → Exchange → Bool
is_held_back s w e = list_any (λ c. wants_write w c.number && (has_full_pipe e c || is_furthest s e c)) s.clients

abbrev pub reads_first : State → Wants → Conn → Exchange → Bool
reads_first s w k e = elim (is_stopped s e) [ true ↦ not (wants_read w k.number) && is_held_back s w e | false ↦ wants_read w k.number ]

-- one without an exchange is read, so that its end is seen; one whose ask is not whole may be
abbrev pub reads_rightly : State → Wants → Conn → Bool
reads_rightly s w k = elim (front_of_line s k) [
  | None ↦ wants_read w k.number
  | Some e ↦ not (is_outstanding e) || reads_first s w k e
]

abbrev pub has_to_ask : State → Conn → Bool
has_to_ask s k = list_any (λ n. is_some_with (λ e. not (is_empty (left_to_ask s e))) (exchange s n)) k.line

abbrev pub is_conn_served : State → Wants → Conn → Bool
is_conn_served s w k = not k.is_reached || (same (has_to_ask s k) (wants_write w k.number) && reads_rightly s w k)

-- ---- exchanges

abbrev pub is_nowhere : Placed → Bool
is_nowhere Wait = true
is_nowhere placed = false

-- it waits for more of the request's body
abbrev pub waits_for_body : State → Exchange → Bool
waits_for_body s e = is_outstanding e && nat_lt 0 e.body_left && is_empty (left_to_ask s e)

-- one without a place has none to go to, and the client of one that waits for a body is read
abbrev pub is_exchange_served : State → Wants → Exchange → Bool
is_exchange_served s w e = elim e.place [
  | None ↦ is_nowhere (place_for s e)
  | Some k ↦ not (waits_for_body s e) || is_some_with (wants_read w) e.asker
]

-- ---- and nothing else

abbrev pub may_read : State → ℕ → Bool
may_read s n =
    list_any (λ c. is_client n c && not c.has_hung_up && has_room c) s.clients || list_any (λ k. is_conn n k && k.is_reached) s.conns

abbrev pub may_write : State → ℕ → Bool
may_write s n =
    list_any (λ c. is_client n c && has_to_say s c) s.clients || list_any (λ k. is_conn n k && k.is_reached && has_to_ask s k) s.conns

abbrev pub wants_no_more : State → Wants → Bool
wants_no_more s w = list_all (may_read s) w.read.items && list_all (may_write s) w.write.items

-- what a wait has to meet, in this order
abbrev pub duties : State → Wants → List Bool
duties s w =
    accepts_rightly s w
    ∷ list_all (is_client_served s w) s.clients
    ∷ list_all (is_conn_served s w) s.conns
    ∷ list_all (is_exchange_served s w) s.exchanges
    ∷ wants_no_more s w
    ∷ []

abbrev pub is_served : State → Wants → Bool
is_served s w = list_all (λ is_met. is_met) (duties s w)
