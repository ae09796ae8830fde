-- The table of what is known of each key: its row, the versions that were retired, what is held of them, and what comes
-- (RFC 2616, section 13.5.4; RFC 7233, sections 4.1 and 4.3).
use Rattle.std.specs.Prelude.{ℕ, zero, suc, ◌+◌, ◌-◌, ◌*◌, ◌/◌, ◌%◌, Bool, true, false, ◌==◌, ◌&&◌, ◌||◌, not, nat_lt, nat_le, min, List, [], ◌∷◌, ◌++◌, find, map, filter, filter_map, count_by, bytes_eq, is_some, Option, Some, None}
use Rattle.std.specs.List.{list_any}
use Rattle.pp_fresh.specs.declared.aging.Times.{Times}
use Rattle.pp_head.specs.Request.{Request}
use Rattle.pp_plan.specs.Need.{is_near}
use Rattle.pp_plan.specs.Row.{Row}
use Rattle.pp_plan.specs.Spans.{resolved, span_in}
use Rattle.pp_target.specs.Key.{text_of}
use Rattle.pp_target.specs.Name.{name_of}
use Rattle.pp_text.specs.Fields.{Field}
use Rattle.pp_valid.specs.declared.version.Version.{Version}
use Rattle.pp_law.specs.Chunks.{chunk_len, filled}
use Rattle.pp_law.specs.Lists.{Bytes, change, without, has_text, is_some_with, is_this}
use Rattle.pp_law.specs.Stages.{reply_of, is_headed, bound_of}
use Rattle.pp_law.specs.State.{State, Instance, Chunk, Entry, Exchange, Bound, Through, Own, Filling, Client, Reply}

abbrev pub is_same_version : Version → Version → Bool
is_same_version v w = bytes_eq v.tag w.tag && (v.length == w.length)

-- ---- rows, in memory or kept

abbrev pub is_instance : ℕ → Instance → Bool
is_instance id x = x.id == id

abbrev pub instance : State → ℕ → Option Instance
instance s id = find (is_instance id) s.instances

abbrev pub is_row_of : Bytes → Instance → Bool
is_row_of key x = not x.is_retired && bytes_eq x.key key

abbrev pub row : State → Bytes → Option Instance
row s key = find (is_row_of key) s.instances

abbrev pub is_entry_of : Bytes → Entry → Bool
is_entry_of key e = bytes_eq e.key key

abbrev pub is_kept_row_of : Bytes → Entry → Bool
is_kept_row_of key e = not e.is_stale && is_entry_of key e

-- what the store holds of a key and still stands for its row
abbrev pub kept_row : State → Bytes → Option Entry
kept_row s key = find (is_kept_row_of key) s.entries

-- the same as long as it may come into memory: not once another key took its name
abbrev pub row_on_disk : State → Bytes → Option Entry
row_on_disk s key = elim (has_text key s.displaced) [ true ↦ None | false ↦ kept_row s key ]

abbrev pub extent_of : State → Instance → ℕ
extent_of s x = elim x.is_retired [ true ↦ 0 | false ↦ elim (kept_row s x.key) [ None ↦ 0 | Some e ↦ e.extent ] ]

-- ---- what is held

-- in memory, or below the extent on disk
abbrev pub is_held_by : ℕ → ℕ → List Chunk → ℕ → Bool
is_held_by id extent chunks at = nat_lt at extent || nat_lt (at % chunk_len) (filled id (at / chunk_len) chunks)

abbrev pub is_held : State → Instance → ℕ → Bool
is_held s x at = is_held_by x.id (extent_of s x) s.chunks at

abbrev pub chunks_in : ℕ → ℕ
chunks_in n = (n + chunk_len - 1) / chunk_len

-- the least offset from this one on that is not held, over so many chunks
abbrev pub reach : ℕ → ℕ → ℕ → List Chunk → ℕ → ℕ
reach zero id extent chunks at = at
reach (suc more) id extent chunks at = elim (nat_lt at extent) [
  | true ↦ reach more id extent chunks extent
  | false ↦ elim (nat_lt (at % chunk_len) (filled id (at / chunk_len) chunks)) [
    | false ↦ at
    | true ↦ elim (filled id (at / chunk_len) chunks == chunk_len) [
      | true ↦ reach more id extent chunks ((at / chunk_len + 1) * chunk_len)
      | false ↦ at / chunk_len * chunk_len + filled id (at / chunk_len) chunks
    ]
  ]
]

abbrev pub held_to : State → Instance → ℕ → ℕ
held_to s x at = reach (chunks_in x.version.length + 2) x.id (extent_of s x) s.chunks at

-- each offset of the half-open span is held
abbrev pub is_span_held : State → Instance → ℕ × ℕ → Bool
is_span_held s x span = nat_le span.1 span.0 || nat_le span.1 (held_to s x span.0)

-- the first offset of the next chunk, from this one on, of which any is held; or the end
abbrev pub next_run : ℕ → ℕ → ℕ → ℕ → List Chunk → ℕ → ℕ
next_run zero n id extent chunks i = n
next_run (suc more) n id extent chunks i = elim (is_held_by id extent chunks (i * chunk_len)) [
  | true ↦ i * chunk_len
  | false ↦ next_run more n id extent chunks (i + 1)
]

abbrev pub next_held : State → Instance → ℕ → ℕ
next_held s x i = next_run (chunks_in x.version.length) x.version.length x.id (extent_of s x) s.chunks i

-- ---- the row that a decision sees

abbrev pub shown_span : Request → Version → ℕ × ℕ
shown_span head version = span_in version.length (resolved head.fields version)

abbrev pub of_instance : State → Request → Instance → Row
of_instance s head x = record { version = x.version; fields = x.fields; times = x.times; held = is_span_held s x (shown_span head x.version) }

abbrev pub is_below : ℕ → ℕ × ℕ → Bool
is_below extent span = nat_le span.1 span.0 || nat_le span.1 extent

abbrev pub of_entry : Request → Entry → Row
of_entry head e = record { version = e.version; fields = e.fields; times = e.times; held = is_below e.extent (shown_span head e.version) }

abbrev pub row_for : State → Request → Bytes → Option Row
row_for s head key = elim (row s key) [
  | Some x ↦ Some (of_instance s head x)
  | None ↦ elim (row_on_disk s key) [ None ↦ None | Some e ↦ Some (of_entry head e) ]
]

-- ---- followers

-- the next byte of a client that follows an instance
pub record Next : Type 0 where
  pub source : Instance
  pub at : ℕ
  pub to : ℕ

abbrev pub next_from : Instance → Reply → Option Next
next_from x r = elim (nat_lt r.at r.to) [ true ↦ Some (record { source = x; at = r.at; to = r.to }) | false ↦ None ]

abbrev pub source_of : State → Reply → Option Instance
source_of s r = elim r.source [ None ↦ None | Some id ↦ instance s id ]

abbrev pub next_in : State → Reply → Option Next
next_in s r = elim (source_of s r) [ None ↦ None | Some x ↦ next_from x r ]

abbrev pub next_of : State → Client → Option Next
next_of s c = elim c.is_closing [
  | true ↦ None
  | false ↦ elim (reply_of c) [ None ↦ None | Some r ↦ next_in s r ]
]

abbrev pub follows : ℕ → Client → Bool
follows id c = not c.is_closing && is_some_with (λ r. is_this id r.source) (reply_of c)

abbrev pub is_followed : State → ℕ → Bool
is_followed s id = list_any (follows id) s.clients

abbrev pub is_next_held : State → Next → Bool
is_next_held s n = is_held s n.source n.at

-- ---- what an exchange brings

-- ours: it is waited for where it is near; from an origin that gives no ranges, however far
abbrev pub is_soon : Bound → ℕ → Bool
is_soon b at = b.is_all || is_near b.next at

-- the offset, and each before it in its chunk that is not in memory, are still to come, and soon enough
abbrev pub is_to_come : State → Instance → Bound → ℕ → Bool
is_to_come s x b at = (b.instance == x.id) && nat_lt at b.to && is_soon b at && nat_le b.next (min at (at / chunk_len * chunk_len + filled x.id (at / chunk_len) s.chunks))

-- its head has not come, and it asks for that offset of that version
abbrev pub asks_for : Instance → ℕ → Exchange → Bool
asks_for x at e = not (is_headed e) && (elim e.aim [ Through ↦ false | Own ↦ false | Filling v from to ↦ bytes_eq (text_of e.key) x.key && bytes_eq v.tag x.version.tag && nat_le from at && nat_lt at to && is_near from at ])

abbrev pub brings : State → Instance → ℕ → Exchange → Bool
brings s x at e = elim (bound_of e) [ Some b ↦ is_to_come s x b at | None ↦ asks_for x at e ]

abbrev pub is_brought : State → Instance → ℕ → Bool
is_brought s x at = list_any (brings s x at) s.exchanges

-- the next byte is there or comes
abbrev pub is_provided : State → Next → Bool
is_provided s n = is_next_held s n || is_brought s n.source n.at

-- ---- pins

abbrev pub pin_of_client : State → Client → Option (ℕ × ℕ)
pin_of_client s c = elim (next_of s c) [ None ↦ None | Some n ↦ Some (n.source.id, n.at / chunk_len) ]

abbrev pub pin_of_exchange : Exchange → Option (ℕ × ℕ)
pin_of_exchange e = elim (bound_of e) [ None ↦ None | Some b ↦ elim (nat_lt b.next b.to) [ true ↦ Some (b.instance, b.next / chunk_len) | false ↦ None ] ]

abbrev pub pins : State → List (ℕ × ℕ)
pins s = filter_map (pin_of_client s) s.clients ++ filter_map pin_of_exchange s.exchanges

-- ---- changes

unfoldable pub on_instance : ℕ → (Instance → Instance) → State → State
on_instance id f s = record s { instances = change (is_instance id) f s.instances }

-- an instance is out, with its chunks
unfoldable pub forget : ℕ → State → State
forget id s = record s { instances = without (is_instance id) s.instances; chunks = without (λ c. c.instance == id) s.chunks }

abbrev pub is_left_over : State → Instance → Bool
is_left_over s x = x.is_retired && not (is_followed s x.id)

abbrev pub is_chunk_of_any : List Instance → Chunk → Bool
is_chunk_of_any xs c = list_any (is_instance c.instance) xs

-- retired versions stand only while a client follows them
unfoldable pub swept : State → State
swept s = record s {
  instances = without (is_left_over s) s.instances;
  chunks = without (is_chunk_of_any (filter (is_left_over s) s.instances)) s.chunks;
}

-- the entry has the name of this key, and is another's
abbrev pub is_namesake : Bytes → Entry → Bool
is_namesake key e = not (is_entry_of key e) && bytes_eq e.name (name_of key)

abbrev pub displaced_by : Bytes → State → List Bytes
displaced_by key s = map (λ e. e.key) (filter (is_namesake key) s.entries) ++ s.displaced

-- the row is replaced, or is not known any more. Ours: its key takes the name of its entry from any other
unfoldable pub clear : Bytes → State → State
clear key s = swept (record s {
  instances = change (is_row_of key) (λ x. record x { is_retired = true }) s.instances;
  entries = change (is_entry_of key) (λ e. record e { is_stale = true }) s.entries;
  displaced = displaced_by key s;
})

-- it is the most recently used one
unfoldable pub mark_row : ℕ → State → State
mark_row id s = record s { instances = without (is_instance id) s.instances ++ filter (is_instance id) s.instances }

-- ---- rows in memory: ours, at most 1,024

abbrev pub rows : State → ℕ
rows s = count_by (λ x. not x.is_retired) s.instances

abbrev pub is_bound_to : ℕ → Exchange → Bool
is_bound_to id e = is_some_with (λ b. b.instance == id) (bound_of e)

abbrev pub is_idle_row : State → Instance → Bool
is_idle_row s x = not x.is_retired && not (is_followed s x.id) && not (list_any (is_bound_to x.id) s.exchanges)

-- the least recently used one without follower and exchange
abbrev pub idle_row : State → Option Instance
idle_row s = find (is_idle_row s) s.instances

unfoldable pub forget_row : Instance → State → State
forget_row x s = record (forget x.id s) { forgotten = s.forgotten ++ x.key ∷ [] }

unfoldable pub with_room : State → State
with_room s = elim (nat_lt (rows s) 1024) [ true ↦ s | false ↦ elim (idle_row s) [ None ↦ s | Some x ↦ forget_row x s ] ]

unfoldable pub add_row : Bytes → Version → List Field → Times → Bool → State → State
add_row key version fields times is_new s = record s {
  instances = s.instances ++ record { id = s.next_instance; key = key; version = version; fields = fields; times = times; is_retired = false; is_new = is_new } ∷ [];
  next_instance = s.next_instance + 1;
}

-- a new row, of which nothing is held
unfoldable pub make_row : Bytes → Version → List Field → Times → State → State
make_row key version fields times s = add_row key version fields times true (with_room (clear key s))

-- a kept row comes into memory
unfoldable pub enter : Bytes → Bool → State → State
enter key is_new s = elim (row s key) [
  | Some x ↦ s
  | None ↦ elim (row_on_disk s key) [ None ↦ s | Some e ↦ add_row key e.version e.fields e.times is_new (with_room s) ]
]

-- it would, and another has to leave before
abbrev pub must_forget : State → Bytes → Bool
must_forget s key = not (is_some (row s key)) && is_some (row_on_disk s key) && not (nat_lt (rows s) 1024) && is_some (idle_row s)
