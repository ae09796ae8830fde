-- How a turn begins and ends: the clock, and the marks of those who wait. All of it is ours.
use Rattle.std.specs.Prelude.{ℕ, ◌-◌, Bool, true, false, ◌==◌, ◌&&◌, ◌||◌, not, nat_le, max, [], map, Option, Some, None, option_map}
use Rattle.std.specs.List.{list_any}
use Rattle.pp_world.specs.declared.event.Wants.{Wants}
use Rattle.pp_law.specs.Sharing.{is_sharing, shared_ask}
use Rattle.pp_law.specs.Connections.{is_for, is_outstanding, each_conn, front_of_line, fail, on_client, on_conn, close_conn}
use Rattle.pp_law.specs.Lists.{has_number, is_some_with}
use Rattle.pp_law.specs.Offers.{has_to_say}
use Rattle.pp_law.specs.Unseen.{rested_exchange}
use Rattle.pp_law.specs.State.{State, Shared, Client, Conn, Exchange, Instance, Awaiting, Free}
use Rattle.pp_law.specs.Table.{next_of, brings}

-- ---- what a client waits for, and marks

-- the exchange that brings its next byte; where it follows nothing, that of its request
abbrev pub waits_for : State → Client → Exchange → Bool
waits_for s c e = elim (next_of s c) [ Some n ↦ brings s n.source n.at e | None ↦ is_for e c ]

-- or it shares one
abbrev pub waits_for_exchange : State → Client → Bool
waits_for_exchange s c = list_any (waits_for s c) s.exchanges || is_sharing s c

abbrev pub marked_client : ℕ → Client → Client
marked_client now c = record c { mark = now }

abbrev pub marked_conn : ℕ → Conn → Conn
marked_conn now k = record k { mark = now }

unfoldable pub touch : ℕ → State → State
touch n s = on_conn n (marked_conn s.clock) (on_client n (marked_client s.clock) s)

-- ours: a tick that comes so many seconds behind the last one, as long as a client that is amid no reply may be idle, tells of a computer
-- that was asleep
abbrev pub leap : ℕ
leap = 120

abbrev pub is_leap : ℕ → State → Bool
is_leap now s = not s.has_ticked || nat_le leap (now - s.clock)

-- the first tick of a life, and one that leaps, mark all: each waits its patience anew from there
unfoldable pub marks_anew : ℕ → State → State
marks_anew now s = elim (is_leap now s) [
  | false ↦ s
  | true ↦ record s { has_ticked = true; clients = map (marked_client now) s.clients; conns = map (marked_conn now) s.conns }
]

-- all of its first ask was written, and its answer is due
abbrev pub owes_answer : State → Conn → Bool
owes_answer s k = is_some_with (λ e. is_outstanding e && (e.body_left == 0)) (front_of_line s k)

-- ours: an origin that did nothing while it was waited for, for 300 seconds where it owes an answer, and else for 60
abbrev pub patience : State → Conn → ℕ
patience s k = elim (owes_answer s k) [ true ↦ 300 | false ↦ 60 ]

abbrev pub is_idle_conn : State → Conn → Bool
is_idle_conn s k = k.has_waited && nat_le (patience s k) (s.clock - k.mark) && not k.is_closing

-- what it did not answer is not asked again
unfoldable pub end_patience : Conn → State → State
end_patience k s = elim (owes_answer s k) [ false ↦ s | true ↦ elim (front_of_line s k) [ None ↦ s | Some e ↦ fail e s ] ]

unfoldable pub close_idle_conn : Conn → State → State
close_idle_conn k s = elim (is_idle_conn s k) [ true ↦ close_conn true k (end_patience k s) | false ↦ s ]

-- who waited for an exchange, and was not written to, is not idle, however long the clock stood still
abbrev pub woken_client : ℕ → State → Client → Client
woken_client now s c = elim (waits_for_exchange s c && not (has_to_say s c)) [ true ↦ marked_client now c | false ↦ c ]

unfoldable pub renew_marks : ℕ → State → State
renew_marks now s = record s { clients = map (woken_client now s) s.clients }

unfoldable pub tick_to : ℕ → State → State
tick_to now s =
    let t : State = record (renew_marks now (marks_anew now s)) { clock = now; is_ticked = true; has_lost_draft = false } in
    each_conn close_idle_conn (map (λ k. k.number) t.conns) t

-- the clock never goes back
unfoldable pub tick : ℕ → State → State
tick now s = tick_to (max s.clock now) s

-- ---- the end of a turn

abbrev pub shared_with : State → Client → Option Shared
shared_with s c = elim (is_sharing s c) [ true ↦ option_map (λ n. record { exchange = n; since = s.clock }) (shared_ask s c) | false ↦ None ]

abbrev pub awaited_by : State → Client → Option Shared
awaited_by s c = elim c.waits_on [ Some w ↦ Some w | None ↦ shared_with s c ]

abbrev pub rested_client : State → Client → Client
rested_client s c = record c { waits_on = awaited_by s c; is_new = false }

abbrev pub is_waited_for : Wants → Conn → Bool
is_waited_for w k = not k.is_reached || has_number k.number w.read.items || has_number k.number w.write.items

abbrev pub rested_conn : State → Wants → Conn → Conn
rested_conn s w k = record k {
  has_waited = is_waited_for w k;
  mark = elim (is_waited_for w k && k.has_waited) [ true ↦ k.mark | false ↦ s.clock ];
}

abbrev pub rested_instance : Instance → Instance
rested_instance x = record x { is_new = false }

unfoldable pub rest_with : Wants → State → State
rest_with w s = record s {
  clients = map (rested_client s) s.clients;
  conns = map (rested_conn s w) s.conns;
  exchanges = map (rested_exchange s) s.exchanges;
  instances = map rested_instance s.instances;
  phase = Awaiting;
  is_ticked = false;
  owed = Free;
  is_evicting = false;
  forgotten = [];
}
