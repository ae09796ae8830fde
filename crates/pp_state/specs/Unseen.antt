-- What nobody will see, of the first exchange of a line (RFC 2616, section 8.1.4).
use Rattle.std.specs.Prelude.{ℕ, ◌+◌, ◌-◌, ◌^◌, Bool, true, false, ◌&&◌, ◌||◌, not, cond, min, nat_lt, List, ◌++◌, is_some, slice_get, Option, Some, None}
use Rattle.std.specs.List.{fold, list_any}
use Rattle.pp_flow.specs.Brings.{is_soon}
use Rattle.pp_flow.specs.Changes.{Exchanges, entry_of, line_of, numbers, with_errand}
use Rattle.pp_flow.specs.Entries.{Span}
use Rattle.pp_flow.specs.declared.entry.Aim.{Aim}
use Rattle.pp_flow.specs.declared.entry.Aim.TheVariants.{Own, Hole, Pass as Through}
use Rattle.pp_flow.specs.declared.entry.Entry.{Entry}
use Rattle.pp_objects.specs.Instances.{is_same_id}
use Rattle.pp_objects.specs.declared.id.ObjectId.{ObjectId}
use Rattle.pp_plan.specs.Need.{is_near}
use Rattle.pp_flow.specs.declared.errand.Body.{Body}
use Rattle.pp_flow.specs.declared.errand.Body.TheVariants.{Pending, Joining, Relaying, Dropping}
use Rattle.pp_seats.specs.declared.seat.Next.{Next}
use Rattle.pp_seats.specs.declared.seat.Seat.{Seat}
use Rattle.pp_seats.specs.Follows.{next_of}
use Rattle.pp_state.specs.Readers.{furthest}

-- it comes soon enough
abbrev pub is_next_near : ObjectId → ℕ → Bool → Option Next → Bool
is_next_near id from all None = false
is_next_near id from all (Some n) = is_same_id n.source id && is_soon all from n.at

abbrev pub has_reader_near : ObjectId → ℕ → Bool → List Seat → Bool
has_reader_near id from all seats = list_any (λ seat. is_next_near id from all (next_of seat)) seats

-- what is kept has a reader near, or little of it is left, or where the last of its readers left is near, before it or behind
abbrev pub is_worth_keeping : Bool → ℕ → ℕ → ℕ → Bool
is_worth_keeping has_reader next to wanted = has_reader || is_near next to || (is_near wanted next && is_near next wanted)

-- what is dropped as it comes is read for so many bytes, to spare the connection
abbrev pub is_unseen : Body → Bool → Bool → Bool → Bool
is_unseen Pending is_through has_asker is_kept = is_through && not has_asker
is_unseen (Joining wanted) is_through has_asker is_kept = not is_kept
is_unseen Relaying is_through has_asker is_kept = not has_asker
is_unseen (Dropping count) is_through has_asker is_kept = nat_lt 65536 count

-- ---- of an exchange

abbrev pub is_through : Aim → Bool
is_through Own = false
is_through (Hole v from to) = false
is_through Through = true

abbrev pub is_kept_to : List Seat → ℕ → Option Span → Bool
is_kept_to seats wanted None = false
is_kept_to seats wanted (Some b) = is_worth_keeping (has_reader_near b.0 b.1 b.3 seats) b.1 b.2 wanted

-- what joins an instance is worth keeping
abbrev pub is_kept : List Seat → Body → Option Span → Bool
is_kept seats Pending b = false
is_kept seats (Joining wanted) b = is_kept_to seats wanted b
is_kept seats Relaying b = false
is_kept seats (Dropping count) b = false

abbrev pub is_nobodys : List Seat → Entry → Bool
is_nobodys seats e = is_unseen e.errand.body (is_through e.exchange.aim) (is_some e.exchange.asker) (is_kept seats e.errand.body e.exchange.bound)

abbrev pub unseen_in : List Seat → ℕ → Option Entry → Option ℕ
unseen_in seats number None = None
unseen_in seats number (Some e) = cond (is_nobodys seats e) (Some number) None

abbrev pub unseen_of : List Seat → Exchanges → Option ℕ → Option ℕ
unseen_of seats f None = None
unseen_of seats f (Some number) = unseen_in seats number (entry_of number f)

-- the first exchange of the line, where nobody will see what comes of it
abbrev pub unseen_on : ℕ → List Seat → Exchanges → Option ℕ
unseen_on k seats f = unseen_of seats f (slice_get (line_of k f.placed) 0)

-- ---- how far a body is wanted, and how much of it was dropped

-- what becomes of the body that an exchange brings is now this
abbrev pub body_noted : Option Entry → ℕ → Body → Exchanges → Exchanges
body_noted None number body f = f
body_noted (Some e) number body f = with_errand number (record e.errand { body = body }) f

-- where the furthest follower stands of what it is bound to
abbrev pub wanted_of : List ℕ → List Seat → Option Span → Option ℕ
wanted_of awake seats None = None
wanted_of awake seats (Some b) = furthest b.0 awake seats

abbrev pub bound_of : Option Entry → Option Span
bound_of None = None
bound_of (Some e) = e.exchange.bound

abbrev pub rested_to : Option ℕ → ℕ → Exchanges → Exchanges
rested_to None number f = f
rested_to (Some at) number f = body_noted (entry_of number f) number (Joining at) f

-- at a wait that is how far its body is wanted
abbrev pub rested : List ℕ → List Seat → Exchanges → ℕ → Exchanges
rested awake seats f number = rested_to (wanted_of awake seats (bound_of (entry_of number f))) number f

abbrev pub all_rested : List ℕ → List Seat → Exchanges → Exchanges
all_rested awake seats f = fold (rested awake seats) f (numbers (f.waiting ++ f.placed))

-- so many bytes more are dropped
abbrev pub dropped_more : ℕ → Body → Body
dropped_more count Pending = Pending
dropped_more count (Joining wanted) = Joining wanted
dropped_more count Relaying = Relaying
dropped_more count (Dropping before) = Dropping (min (before + count) (2 ^ 64 - 1))

abbrev pub drops_in : Option Entry → ℕ → ℕ → Exchanges → Exchanges
drops_in None number count f = f
drops_in (Some e) number count f = with_errand number (record e.errand { body = dropped_more count e.errand.body }) f

abbrev pub with_dropped : ℕ → ℕ → Exchanges → Exchanges
with_dropped number count f = drops_in (entry_of number f) number count f
