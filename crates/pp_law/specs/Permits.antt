-- What may happen next: a test for each happening.
use Rattle.std.specs.Prelude.{◌≡◌, ℕ, Bool, true, false, ◌==◌, ◌&&◌, ◌||◌, not, nat_lt, nat_le, nat_eq, ◌/◌, length, bytes_eq, is_some, Option, Some, None}
use Rattle.std.specs.List.{list_any, starts_with}
use Rattle.pp_text.specs.Bytes.{is_empty}
use Rattle.pp_world.specs.declared.event.Wants.{Wants}
use Rattle.pp_world.specs.declared.happening.Happening.{Happening}
use Rattle.pp_world.specs.declared.happening.Happening.TheVariants.{Woke, Waits, Clock, Opened, CanRead, CanWrite, Heard, HungUp, Said, Shut, Dialled, Undialled, Reached, Ended, Broke, Asked, Got, Dropped, NoneYet, Began, Did, Unread, Noted, Rooted, Listed, Listens, Configured, Printed, Stopped}
use Rattle.pp_world.specs.declared.note.Cause.{Cause}
use Rattle.pp_world.specs.declared.note.Cause.TheVariants.{Superseded, Origin, Short, Idle, Memory, Stop}
use Rattle.pp_world.specs.declared.note.Decision.{Decision}
use Rattle.pp_world.specs.declared.note.Decision.TheVariants.{Refuse, Hit, Part, Head, NotModified, Unsatisfiable, Relay, Validate, Fetch, Pass}
use Rattle.pp_world.specs.declared.note.Remark.{Remark}
use Rattle.pp_world.specs.declared.note.Remark.TheVariants.{Taken, Cut, Kept, Gone, Forgotten, Evicted, Loaded}
use Rattle.pp_world.specs.declared.op.DiskOp.{DiskOp}
use Rattle.pp_law.specs.Asking.{is_reading, is_writing, permits_heard, permits_got, permits_asked}
use Rattle.pp_law.specs.Chunks.{chunk_len, is_in_memory}
use Rattle.pp_law.specs.Deciding.{is_for_memory, has_to_forget}
use Rattle.pp_law.specs.Due.{Due, Decide, CutOff, first_due, next_due}
use Rattle.pp_law.specs.Connections.{client, conn, is_client, is_conn, placing, Pause, WaitsDial, WaitsDrop}
use Rattle.pp_law.specs.Lists.{Bytes, is_some_with}
use Rattle.pp_law.specs.Opening.{permits_woke, permits_configured, permits_rooted, permits_listens, is_at, is_opening, may_fail}
use Rattle.pp_law.specs.Offers.{offer, is_at_body}
use Rattle.pp_law.specs.Phases.{is_awaiting, is_under_way, due_victim, has_closings, may_in, may_decide, may_end, ending}
use Rattle.pp_law.specs.Requests.{parsed_in}
use Rattle.pp_law.specs.Leaving.{leaving_as}
use Rattle.pp_law.specs.Repairs.{may_begin_in_opening}
use Rattle.pp_law.specs.Served.{accepts, is_served}
use Rattle.pp_law.specs.State.{State, Client, Entry, IsRooted, IsListed, IsListening, Evicting, Keeping, Connecting}
use Rattle.pp_law.specs.Store.{is_idle_disk, is_at_rest, is_closed, is_named, is_acknowledged_as, may_note_gone, may_begin_in_turn, may_end_op}
use Rattle.pp_law.specs.Table.{kept_row, instance, is_same_version, next_of, Next}

-- ---- decisions and cuts

abbrev pub is_same_decision : Decision → Decision → Bool
is_same_decision (Refuse a) (Refuse b) = a == b
is_same_decision (Hit a b) (Hit c d) = (a == c) && (b == d)
is_same_decision (Part a b) (Part c d) = (a == c) && (b == d)
is_same_decision Head Head = true
is_same_decision NotModified NotModified = true
is_same_decision Unsatisfiable Unsatisfiable = true
is_same_decision Relay Relay = true
is_same_decision Validate Validate = true
is_same_decision Fetch Fetch = true
is_same_decision Pass Pass = true
is_same_decision d other = false

abbrev pub is_same_cause : Cause → Cause → Bool
is_same_cause Superseded Superseded = true
is_same_cause Origin Origin = true
is_same_cause Short Short = true
is_same_cause Idle Idle = true
is_same_cause Memory Memory = true
is_same_cause Stop Stop = true
is_same_cause cause other = false

-- a request has a key and a row that memory may be refused for, and a place that is none has not
abbrev pub may_want_memory : State → ℕ → Bool
may_want_memory s c = is_some_with (λ x. is_some (parsed_in x.front)) (client s c)

-- it is the decision that is due; or memory was refused
abbrev pub is_due_decision : State → Option Due → ℕ → ℕ → Decision → Bool
is_due_decision s (Some (Decide n j due)) c i d =
    (n == c) && (j == i) && (is_same_decision due d || (is_same_decision d (Refuse 500) && may_want_memory s c))
is_due_decision s other c i d = false

abbrev pub is_due_cut : Option Due → ℕ → Cause → Bool
is_due_cut (Some (CutOff n due)) c cause = (n == c) && is_same_cause due cause
is_due_cut other c cause = false

-- the row of its key has room in memory
abbrev pub has_room_for : State → ℕ → Decision → Bool
has_room_for s c d = is_for_memory d || not (is_some_with (has_to_forget s) (client s c))

abbrev pub may_take : State → ℕ → ℕ → Decision → Bool
may_take s c i d = is_due_decision s (next_due s) c i d && has_room_for s c d

abbrev pub permits_taken : State → ℕ → ℕ → Decision → Bool
permits_taken s c i d = may_decide (λ t. may_take t c i d) s

-- a client that was opened in this turn may be refused memory
abbrev pub is_newcomer : ℕ → Client → Bool
is_newcomer n c = is_client n c && c.is_new && not c.is_closing

abbrev pub may_cut : State → ℕ → Cause → Bool
may_cut s c cause = is_due_cut (first_due s) c cause || (is_same_cause cause Memory && list_any (is_newcomer c) s.clients)

-- ---- chunks leave memory

abbrev pub is_chunk_of : State → Bytes → Bytes → ℕ → ℕ → ℕ × ℕ → Bool
is_chunk_of s key tag n i place =
    (place.1 == i) && is_some_with (λ x. bytes_eq x.key key && bytes_eq x.version.tag tag && (x.version.length == n)) (instance s place.0)

abbrev pub may_evict : State → Bytes → Bytes → ℕ → ℕ → Bool
may_evict s key tag n i = is_empty s.forgotten && is_some_with (is_chunk_of s key tag n i) (due_victim s)

-- ---- the disk

-- also to repair an entry in the opening
abbrev pub permits_began : State → DiskOp → Bool
permits_began s op = (is_at IsListed s && may_begin_in_opening op s) || may_in Keeping (may_begin_in_turn op) s

-- below the extent of the entry of its version; of a closed name nothing is read
abbrev pub is_kept_there : State → Next → Entry → Bool
is_kept_there s x e = is_same_version e.version x.source.version && nat_lt x.at e.extent && not (is_closed s e.name)

-- the client that is written to has its next byte in that chunk, where it is kept and not in memory
abbrev pub may_load_at : State → Next → Bytes → Bytes → ℕ → ℕ → Bool
may_load_at s x key tag n i =
    not x.source.is_retired && bytes_eq x.source.key key && bytes_eq x.source.version.tag tag && (x.source.version.length == n)
    && (x.at / chunk_len == i) && is_some_with (is_kept_there s x) (kept_row s x.source.key) && not (is_in_memory s x.source.id x.at)

abbrev pub may_load : State → Bytes → Bytes → ℕ → ℕ → Client → Bool
may_load s key tag n i c = is_writing s.owed c.number && is_at_body c && is_some_with (λ x. may_load_at s x key tag n i) (next_of s c)

abbrev pub loads_from : State → Bytes → Next → Bool
loads_from s name x =
    may_load_at s x x.source.key x.source.version.tag x.source.version.length (x.at / chunk_len)
    && is_some_with (is_named name) (kept_row s x.source.key)

abbrev pub may_fail_to_load : State → Bytes → Client → Bool
may_fail_to_load s name c = is_writing s.owed c.number && is_at_body c && is_some_with (loads_from s name) (next_of s c)

-- recovery reads a name, and no more once it is closed
abbrev pub may_fail_to_recover : State → Bytes → Bool
may_fail_to_recover s name = is_at IsListed s && not (is_closed s name)

-- where recovery reads, or where a chunk may be loaded from that file; and never while the disk is written
abbrev pub permits_unread : State → Bytes → Bool
permits_unread s name = is_at_rest s && (may_fail_to_recover s name || list_any (may_fail_to_load s name) s.clients)

abbrev pub permits_noted : State → Remark → Bool
permits_noted s (Taken c i d) = permits_taken s c i d
permits_noted s (Cut c cause) = may_decide (λ t. may_cut t c cause) s
permits_noted s (Kept key tag n extent) = is_idle_disk s && is_acknowledged_as key tag n extent s.agenda.todo
permits_noted s (Gone key) = may_in Keeping (λ t. may_note_gone t key) s
permits_noted s (Forgotten key) = is_some (leaving_as s key)
permits_noted s (Evicted key tag n i) = may_in Evicting (λ t. may_evict t key tag n i) s
permits_noted s (Loaded key tag n i) = is_at_rest s && list_any (may_load s key tag n i) s.clients

-- ---- what is said

-- the front of what is left for the client; how many bytes of it are offered is free
abbrev pub is_said_of : ℕ → Bytes → Bytes → Bool
is_said_of offered bytes left = nat_le 1 offered && nat_le (length bytes) offered && nat_le offered (length left) && starts_with nat_eq left bytes

abbrev pub permits_said : State → ℕ → ℕ → Bytes → Bool
permits_said s c offered bytes = is_writing s.owed c && is_some_with (λ x. is_said_of offered bytes (offer s x)) (client s c)

-- ---- closings and places

abbrev pub may_shut : State → ℕ → Client → Bool
may_shut s n c = is_client n c && (c.is_closing || s.is_stopped)

abbrev pub is_dial_of : Pause → Bytes → ℕ → Bool
is_dial_of (WaitsDial e) host port = bytes_eq e.key.host host && (e.key.port == port)
is_dial_of pause host port = false

-- the dial of the first exchange that needs one, behind all closings
abbrev pub may_dial : State → Bytes → ℕ → Bool
may_dial s host port = not s.is_stopped && not (has_closings s) && is_dial_of (placing s).pause host port

abbrev pub permits_dial : State → Bytes → ℕ → Bool
permits_dial s host port = may_in Connecting (λ t. may_dial t host port) s

abbrev pub is_drop_of : Pause → ℕ → Bool
is_drop_of (WaitsDrop k e) n = k == n
is_drop_of pause n = false

-- it gives way to the dial of the first exchange that needs one
abbrev pub gives_way : State → ℕ → Bool
gives_way s n = not (has_closings s) && is_drop_of (placing s).pause n

abbrev pub may_drop : State → ℕ → Bool
may_drop s n = list_any (λ k. is_conn n k && (k.is_closing || s.is_stopped)) s.conns || gives_way s n

-- ---- the outside

abbrev pub has_conn : State → ℕ → Bool
has_conn s n = is_some (conn s n)

abbrev pub is_owed : State → ℕ → Bool
is_owed s n = is_reading s.owed n || is_writing s.owed n

abbrev pub permits_broke : State → ℕ → Bool
permits_broke s n = has_conn s n && (is_awaiting s || is_owed s n)

abbrev pub is_new_number : State → ℕ → Bool
is_new_number s n = nat_lt s.top n

-- only where the last wait wanted one
abbrev pub may_open : State → ℕ → Bool
may_open s n = is_new_number s n && accepts s

-- ---- all

-- the opening is over, or all is done that this turn owes
abbrev pub may_wait : State → Bool
may_wait s = is_at IsListening s || (not s.is_stopped && may_end s)

-- a log may end here: nothing is owed, and behind Stop everybody is closed
abbrev pub is_over : State → Bool
is_over s = (not (is_under_way s) || may_end s) && (not s.is_stopped || (is_empty s.clients && is_empty s.conns))

abbrev pub permits_waits : State → Wants → Bool
permits_waits s w = elim (may_wait s) [ true ↦ is_served (ending s) w | false ↦ false ]

unfoldable pub permits : State → Happening → Bool
permits s (Woke image) = permits_woke s image
permits s (Waits w) = permits_waits s w
permits s (Clock seconds) = is_awaiting s
permits s (Opened n) = is_awaiting s && may_open s n
permits s (CanRead n) = is_awaiting s
permits s (CanWrite n) = is_awaiting s
permits s (Heard c bytes) = permits_heard s c bytes
permits s (HungUp c) = is_owed s c && is_some (client s c)
permits s (Said c offered bytes) = permits_said s c offered bytes
permits s (Shut c) = may_in Connecting (λ t. list_any (may_shut t c) t.clients) s
permits s (Dialled n host port) = is_new_number s n && permits_dial s host port
permits s (Undialled host port) = may_fail s false && permits_dial s host port
permits s (Reached k) = is_awaiting s && has_conn s k
permits s (Ended k) = is_reading s.owed k && has_conn s k
permits s (Broke k) = permits_broke s k
permits s (Asked k bytes) = permits_asked s k bytes
permits s (Got k bytes) = permits_got s k bytes
permits s (Dropped k) = may_in Connecting (λ t. may_drop t k) s
permits s (NoneYet n) = is_reading s.owed n
permits s (Began op) = permits_began s op
permits s (Did op ok) = may_end_op s op && may_fail s ok
permits s (Unread name) = may_fail s false && permits_unread s name
permits s (Noted remark) = permits_noted s remark
permits s (Rooted folder) = permits_rooted s folder
permits s (Listed ok) = is_at IsRooted s && may_fail s ok
permits s (Listens port ok) = permits_listens s port && may_fail s ok
permits s (Configured file text) = permits_configured s file && may_fail s (is_some text)
permits s (Printed text) = is_opening s
permits s Stopped = is_awaiting s

-- behind a row that left memory for a decision only that decision may come, or a crash
abbrev pub permits_behind_forgotten : State → Happening → Bool
permits_behind_forgotten s (Woke image) = permits_woke s image
permits_behind_forgotten s (Noted (Taken c i d)) = permits_taken s c i d && not (is_for_memory d)
permits_behind_forgotten s h = false

unfoldable pub is_permitted : State → Happening → Bool
is_permitted s h = elim s.has_made_room [ Some who ↦ permits_behind_forgotten s h | None ↦ permits s h ]

abbrev pub IsPermitted : State → Happening → Type 0
IsPermitted s h = is_permitted s h ≡ true
