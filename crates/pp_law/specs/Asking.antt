-- What is asked of origins, and heard of clients (RFC 2616, sections 5 and 8.2).
use Rattle.std.specs.Prelude.{ℕ, ◌+◌, ◌-◌, Bool, true, false, ◌==◌, ◌&&◌, ◌||◌, not, nat_lt, nat_le, nat_eq, min, [], length, take, drop, find, Option, Some, None, option_and_then, option_map}
use Rattle.std.specs.List.{starts_with}
use Rattle.pp_pass.specs.Pipe.{room_of}
use Rattle.pp_text.specs.Bytes.{is_empty}
use Rattle.pp_law.specs.Closing.{close_client}
use Rattle.pp_law.specs.Decisions.{text_limit}
use Rattle.pp_law.specs.Hearing.{heard_by, what_counts}
use Rattle.pp_law.specs.Connections.{client, conn, exchange, is_for, on_client, on_client_of, on_exchange, is_outstanding, front_of_line}
use Rattle.pp_law.specs.Lists.{Bytes, first_some, is_some_with}
use Rattle.pp_law.specs.Replies.{end_replies}
use Rattle.pp_law.specs.Stages.{passed_of}
use Rattle.pp_law.specs.State.{State, Client, Exchange, Owed, ReadOf, WriteTo}

-- ---- of a client

unfoldable pub hear : ℕ → Bytes → State → State
hear n bytes s = end_replies (on_client n (heard_by bytes) s)

-- ours: bytes that are not read yet have as much room as a head
abbrev pub has_room : Client → Bool
has_room c = nat_lt (length c.heard) text_limit

abbrev pub fits_heard : Bytes → Client → Bool
fits_heard bytes c = nat_le (length c.heard + length (what_counts c.front (drop c.skip bytes))) text_limit

-- ours: one read takes at most so many bytes
abbrev pub read_limit : ℕ
read_limit = 32768

abbrev pub is_read : ℕ → Bytes → Bool
is_read most bytes = nat_le 1 (length bytes) && nat_le (length bytes) (min read_limit most)

-- ---- of an origin

-- of which text or body bytes are left
abbrev pub is_being_asked : Exchange → Bool
is_being_asked e = not (is_outstanding e) || nat_lt 0 e.body_left

abbrev pub left_in : Exchange → Option Exchange
left_in e = elim (is_being_asked e) [ true ↦ Some e | false ↦ None ]

-- the exchange that is asked next on a connection
abbrev pub asking : State → ℕ → Option Exchange
asking s n = elim (conn s n) [ None ↦ None | Some k ↦ first_some (λ m. option_and_then left_in (exchange s m)) k.line ]

-- what was heard of the body of its request, and of no other
abbrev pub body_heard : State → Exchange → Bytes
body_heard s e = elim (find (is_for e) s.clients) [ None ↦ [] | Some c ↦ take (min e.body_left c.body_left) c.heard ]

-- what is there to be asked next
abbrev pub left_to_ask : State → Exchange → Bytes
left_to_ask s e = elim (is_outstanding e) [ false ↦ drop e.asked e.text | true ↦ body_heard s e ]

abbrev pub asked_text : ℕ → ℕ → Exchange → Exchange
asked_text n now e = record e { asked = e.asked + n; requested = now }

abbrev pub asked_body : ℕ → Client → Client
asked_body n c = record c { heard = drop n c.heard; body_left = c.body_left - n }

unfoldable pub ask_body : Exchange → ℕ → State → State
ask_body e n s = on_client_of e (asked_body n) (on_exchange e.number (λ x. record x { body_left = x.body_left - n }) s)

unfoldable pub ask_next : Exchange → ℕ → State → State
ask_next e n s = elim (is_outstanding e) [ false ↦ on_exchange e.number (asked_text n s.clock) s | true ↦ ask_body e n s ]

unfoldable pub ask : ℕ → ℕ → State → State
ask k n s = elim (asking s k) [ None ↦ s | Some e ↦ ask_next e n s ]

-- ours: a read takes no more than the pipe of the first exchange has room for
abbrev pub pipe_room : Exchange → Client → Option ℕ
pipe_room e c = elim (is_for e c) [ false ↦ None | true ↦ option_map (λ p. room_of p.pipe) (passed_of c) ]

abbrev pub room_for : State → Exchange → ℕ
room_for s e = elim (first_some (pipe_room e) s.clients) [ None ↦ read_limit | Some n ↦ n ]

abbrev pub read_room : State → ℕ → ℕ
read_room s n = elim (conn s n) [ None ↦ 0 | Some k ↦ elim (front_of_line s k) [ None ↦ read_limit | Some e ↦ room_for s e ] ]

-- ---- what the event asks for

abbrev pub is_reading : Owed → ℕ → Bool
is_reading (ReadOf m) n = m == n
is_reading owed n = false

abbrev pub is_writing : Owed → ℕ → Bool
is_writing (WriteTo m) n = m == n
is_writing owed n = false

-- ours: a client whose writing fails is lost; one that sends no more is answered what it asked before
unfoldable pub hang_up : ℕ → State → State
hang_up n s = elim (is_writing s.owed n) [
  | true ↦ close_client n false s
  | false ↦ end_replies (on_client n (λ c. record c { has_hung_up = true }) s)
]

abbrev pub permits_heard : State → ℕ → Bytes → Bool
permits_heard s n bytes = is_reading s.owed n && is_read read_limit bytes && is_some_with (fits_heard bytes) (client s n)

abbrev pub permits_got : State → ℕ → Bytes → Bool
permits_got s n bytes = is_reading s.owed n && is_read (read_room s n) bytes

-- what is asked is the front of what is left
abbrev pub is_front : Bytes → Bytes → Bool
is_front bytes left = starts_with nat_eq left bytes && not (is_empty left)

abbrev pub permits_asked : State → ℕ → Bytes → Bool
permits_asked s n bytes = is_writing s.owed n && is_some_with (λ e. is_front bytes (left_to_ask s e)) (asking s n)
