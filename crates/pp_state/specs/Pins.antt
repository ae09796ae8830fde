-- What may not leave memory: rows that exchanges are bound to, and chunks in which the next byte of a client or of an exchange lies;
-- and the row that leaves where there is no room for another (ours).
use Rattle.std.specs.Prelude.{ℕ, ◌/◌, ◌^◌, true, false, ◌&&◌, nat_le, nat_lt, List, ◌++◌, take, count_by, Option, Some, None, option_map, option_and_then, Bool, ◌==◌}
use Rattle.std.specs.List.{filter_map, find}
use Rattle.pp_cache.specs.Memory.{Memory}
use Rattle.pp_cache.specs.Notes.{noted_by}
use Rattle.pp_flow.specs.Changes.{Exchanges}
use Rattle.pp_flow.specs.Entries.{Span}
use Rattle.pp_flow.specs.declared.entry.Entry.{Entry}
use Rattle.pp_holes.specs.Places.{without_owner}
use Rattle.pp_objects.specs.Changes.{without_slot}
use Rattle.pp_objects.specs.Instances.{Instance, is_idle, is_row, is_there}
use Rattle.pp_objects.specs.declared.id.ObjectId.{ObjectId}
use Rattle.pp_seats.specs.Follows.{next_of}
use Rattle.pp_seats.specs.declared.seat.Next.{Next}
use Rattle.pp_seats.specs.declared.seat.Seat.{Seat}
use Rattle.pp_state.specs.declared.state.State.{State}
use Rattle.pp_plan.specs.Decision.{decision}
use Rattle.pp_world.specs.declared.note.Decision.{Decision}
use Rattle.pp_world.specs.declared.note.Decision.TheVariants.{Refuse}

abbrev pub exchanges_of : Exchanges → List Entry
exchanges_of f = f.waiting ++ f.placed

abbrev pub bound_of : Entry → Option Span
bound_of x = x.exchange.bound

-- ---- rows

abbrev pub busy_row : Entry → Option ObjectId
busy_row x = option_map (λ b. b.0) (bound_of x)

-- that exchanges are bound to: no more than 64 have a place
abbrev pub busy_rows : Exchanges → List ObjectId
busy_rows f = take 64 (filter_map busy_row (exchanges_of f))

-- the least recently used one without follower and exchange
abbrev pub idle_row : State → Option Instance
idle_row s = find (is_idle (busy_rows s.flow)) s.cache.instances

-- an instance leaves memory with its chunks
abbrev pub without_instance : Instance → Memory → Memory
without_instance i m = record m { instances = without_slot i.slot m.instances; chunks = without_owner i.slot m.chunks }

-- and its key is to be noted
abbrev pub forgotten_row : Option Instance → State → State
forgotten_row None s = s
forgotten_row (Some i) s = record s { cache = without_instance i s.cache; forgotten = noted_by i.key s.forgotten }

-- at most 1,024 rows
abbrev pub with_room : State → State
with_room s = elim (nat_le 1024 (count_by is_row s.cache.instances)) [ true ↦ forgotten_row (idle_row s) s | false ↦ s ]

-- ---- chunks

-- of 4,096 bytes, as the pool numbers them
abbrev pub chunk_at : ObjectId → ℕ → Option (ℕ × ℕ)
chunk_at id at = elim (nat_lt (at / 4096) (2 ^ 32)) [ true ↦ Some (id.slot, at / 4096) | false ↦ None ]

abbrev pub pin_of_next : Next → Option (ℕ × ℕ)
pin_of_next next = chunk_at next.source next.at

abbrev pub pin_of_seat : Seat → Option (ℕ × ℕ)
pin_of_seat seat = option_and_then pin_of_next (next_of seat)

-- what is bound to an instance that is gone lies in none: its slot may be another's
abbrev pub pin_of_span : List Instance → Span → Option (ℕ × ℕ)
pin_of_span is b = elim (nat_lt b.1 b.2 && is_there b.0 is) [ true ↦ chunk_at b.0 b.1 | false ↦ None ]

abbrev pub pin_of_entry : List Instance → Entry → Option (ℕ × ℕ)
pin_of_entry is x = option_and_then (pin_of_span is) (bound_of x)

-- at most 320: of 256 clients, and of 64 exchanges with a place
abbrev pub pins_of_seats : List Seat → List (ℕ × ℕ)
pins_of_seats seats = take 320 (filter_map pin_of_seat seats)

abbrev pub pins : State → List (ℕ × ℕ)
pins s = take 320 (pins_of_seats s.seats.items ++ filter_map (pin_of_entry s.cache.instances) (exchanges_of s.flow))

-- ---- a decision for want of memory

-- memory was refused for it
abbrev pub is_for_memory : Decision → Bool
is_for_memory (Refuse status) = status == 500
is_for_memory d = false
