-- Where the clients stand that follow an instance (ours). Who is not awake follows nothing.
use Rattle.std.specs.Prelude.{ℕ, ◌+◌, ◌/◌, Bool, false, ◌&&◌, ◌||◌, not, cond, max, nat_le, List, slice_get, Option, Some, None, option_and_then}
use Rattle.std.specs.List.{filter_map, reduce}
use Rattle.pp_cache.specs.Memory.{Memory}
use Rattle.pp_flow.specs.Brings.{is_soon}
use Rattle.pp_flow.specs.Entries.{Span}
use Rattle.pp_objects.specs.Instances.{is_same_id}
use Rattle.pp_objects.specs.declared.id.ObjectId.{ObjectId}
use Rattle.pp_seats.specs.Follows.{next_of}
use Rattle.pp_seats.specs.declared.seat.Next.{Next}
use Rattle.pp_seats.specs.declared.seat.Seat.{Seat}
use Rattle.pp_state.specs.Bringing.{is_held}

-- of two that may be there
abbrev pub of_both : (ℕ → ℕ → ℕ) → Option ℕ → Option ℕ → Option ℕ
of_both f x None = x
of_both f None (Some n) = Some n
of_both f (Some m) (Some n) = Some (f m n)

-- the next byte of the client at a place
abbrev pub next_at : List Seat → ℕ → Option Next
next_at seats i = option_and_then next_of (slice_get seats i)

-- ---- all that follow it

abbrev pub at_of : ObjectId → Option Next → Option ℕ
at_of id None = None
at_of id (Some n) = cond (is_same_id n.source id) (Some n.at) None

-- where the furthest of them stands
abbrev pub furthest : ObjectId → List ℕ → List Seat → Option ℕ
furthest id awake seats = reduce max (filter_map (λ i. at_of id (next_at seats i)) awake)

-- ---- those to whom an exchange brings it, from an offset on, and all of it or what is near

-- it was brought what it says next, or waits for it: who reads on elsewhere, far ahead of what comes, is brought nothing
abbrev pub is_brought_to : ℕ → Bool → Memory → Next → Bool
is_brought_to from all m n = nat_le n.at from || (is_soon all from n.at && not (is_held n.source n.at m))

abbrev pub read_at : ObjectId → ℕ → Bool → Memory → Option Next → Option ℕ
read_at id from all m None = None
read_at id from all m (Some n) = cond (is_same_id n.source id && is_brought_to from all m n) (Some n.at) None

abbrev pub furthest_read : ObjectId → ℕ → Bool → Memory → List ℕ → List Seat → Option ℕ
furthest_read id from all m awake seats = reduce max (filter_map (λ i. read_at id from all m (next_at seats i)) awake)

-- so many chunks past an offset
abbrev pub is_past : ℕ → ℕ → Bool
is_past at from = nat_le (at / 4096 + 256) (from / 4096)

-- past that one, whose next byte is there
abbrev pub is_past_read : ObjectId → ℕ → Memory → Option ℕ → Bool
is_past_read id from m None = false
is_past_read id from m (Some at) = is_past at from && is_held id at m

-- what comes is far ahead of all its readers
abbrev pub is_far_ahead : Option Span → Memory → List ℕ → List Seat → Bool
is_far_ahead None m awake seats = false
is_far_ahead (Some b) m awake seats = is_past_read b.0 b.1 m (furthest_read b.0 b.1 b.3 m awake seats)
