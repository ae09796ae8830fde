-- What is due to a client, by the state of a turn (RFC 2616, section 8.1; the order is ours).
use Rattle.std.specs.Prelude.{ℕ, Bool, true, false, ◌&&◌, ◌||◌, not, List, is_some, slice_get, Option, Some, None}
use Rattle.std.specs.Option.{option_and_then}
use Rattle.pp_cache.specs.Memory.{Memory, stands}
use Rattle.pp_client.specs.Replies.{Reply, at_hand, next_byte}
use Rattle.pp_objects.specs.Instances.{Instance, is_there}
use Rattle.pp_objects.specs.declared.id.ObjectId.{ObjectId}
use Rattle.pp_seats.specs.Dues.{cause_in, decision_in, due_in, is_idle_in, lost_in}
use Rattle.pp_seats.specs.Follows.{answer_in, next_of}
use Rattle.pp_seats.specs.declared.due.Due.{Due}
use Rattle.pp_seats.specs.declared.seat.Answer.{Answer}
use Rattle.pp_seats.specs.declared.seat.Next.{Next}
use Rattle.pp_seats.specs.declared.seat.Seat.{Seat}
use Rattle.pp_text.specs.Bytes.{is_empty}
use Rattle.pp_world.specs.declared.note.Cause.{Cause}
use Rattle.pp_world.specs.declared.note.Decision.{Decision}
use Rattle.pp_state.specs.Bringing.{is_provided}
use Rattle.pp_decide.specs.Decide.{decide}
use Rattle.pp_due.specs.OnDisk.{next_on_disk}
use Rattle.pp_decide.specs.Sharing.{due_undecided}
use Rattle.pp_state.specs.declared.state.State.{State}

-- ---- the row that a reply was decided by

abbrev pub is_source_standing : List Instance → Option Answer → Bool
is_source_standing is None = false
is_source_standing is (Some a) = elim a.source [ None ↦ false | Some id ↦ stands id is ]

-- the instance that it follows still stands as the row of its key
abbrev pub has_source_standing : State → Seat → Bool
has_source_standing s seat = is_source_standing s.cache.instances (answer_in seat.stage)

-- ---- decisions

-- one that waits, and a reply that has not begun and whose row is replaced, are decided by the row of now
abbrev pub decision_of : State → Seat → Option Decision
decision_of s seat = decision_in seat (lost_in (answer_in seat.stage) (has_source_standing s seat)) (due_undecided s seat) (decide s seat)

-- ---- cuts

abbrev pub is_next_there : Option (ObjectId × ℕ) → List Instance → Bool
is_next_there None is = true
is_next_there (Some at) is = is_there at.0 is

-- nothing in memory is there to be said; of an instance that is gone nothing is
abbrev pub has_nothing_at_hand : Reply → Memory → Bool
has_nothing_at_hand r m = not (is_next_there (next_byte r) m.instances) || is_empty (at_hand r m.chunks)

-- nothing that came is left to say to it
abbrev pub is_dry : State → Seat → Bool
is_dry s seat = has_nothing_at_hand seat.client.reply s.cache && not (is_some (next_on_disk s seat))

abbrev pub is_left_behind : State → Next → Bool
is_left_behind s n = not (stands n.source s.cache.instances) && not (is_provided n s.cache s.flow)

-- another version stands, and of this one nothing more comes
abbrev pub is_superseded : State → Seat → Bool
is_superseded s seat = elim (next_of seat) [ None ↦ false | Some n ↦ is_left_behind s n ]

-- what came is said before a reply is cut for its origin
abbrev pub cut_of : State → Seat → Option Cause
cut_of s seat = cause_in s.is_stopped (is_idle_in s.is_ticked s.now seat) seat (is_dry s seat) (is_superseded s seat)

-- ---- both

abbrev pub due_of : State → Seat → Option Due
due_of s seat = due_in seat.is_closing s.is_stopped (cut_of s seat) (decision_of s seat)

-- of the client at this place
abbrev pub due_at : ℕ → State → Option Due
due_at i s = option_and_then (due_of s) (slice_get s.seats.items i)
