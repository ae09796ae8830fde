-- What followers ask for: bytes that are not there and do not come (RFC 7233, sections 3.2 and 4.3; ours: chunk by chunk).
use Rattle.std.specs.Prelude.{ℕ, ◌-◌, Bool, true, false, List, [], ◌∷◌, slice_get, Option, Some, None}
use Rattle.pp_cache.specs.Memory.{Memory}
use Rattle.pp_flow.specs.declared.entry.Aim.TheVariants.{Hole}
use Rattle.pp_flow.specs.declared.errand.Kind.TheVariants.{Hole as AsHole}
use Rattle.pp_head.specs.Request.{Request}
use Rattle.pp_objects.specs.Instances.{Instance, in_slot, is_there}
use Rattle.pp_objects.specs.declared.id.ObjectId.{ObjectId}
use Rattle.pp_seats.specs.Courses.{is_trying_in}
use Rattle.pp_seats.specs.Follows.{next_of}
use Rattle.pp_seats.specs.declared.front.Asked.{Asked}
use Rattle.pp_seats.specs.declared.key.Key.{Key}
use Rattle.pp_seats.specs.declared.seat.Course.TheVariants.{AskTooLong}
use Rattle.pp_seats.specs.declared.seat.Next.{Next}
use Rattle.pp_seats.specs.declared.seat.Seat.{Seat}
use Rattle.pp_valid.specs.declared.version.Version.{Version}
use Rattle.pp_state.specs.Bringing.{need_of}
use Rattle.pp_take.specs.Deciding.{Ask, ask_by, by_seat, exchange_begun, may_ask}
use Rattle.pp_state.specs.Ends.{Parts, on_seat}

-- a half-open span of offsets of that version
abbrev pub hole_ask : List ℕ → Version → ℕ × ℕ → Seat → Asked → Key → Request → Option Ask
hole_ask name version span seat a key head = ask_by name a key head (AsHole span.0 (span.1 - 1) version.tag)

abbrev pub hole_ask_at : List ℕ → ℕ → Version → ℕ × ℕ → Parts → Option Ask
hole_ask_at name i version span p = by_seat (hole_ask name version span) (slice_get p.seats i)

-- its exchange begins; one whose text does not fit asks nothing any more
unfoldable pub hole_asked : ℕ → Version → ℕ × ℕ → Option Ask → Parts → Parts
hole_asked i version span None p = on_seat i (λ seat. record seat { course = AskTooLong }) p
hole_asked i version span (Some ask) p = exchange_begun i (Hole version span.0 span.1) ask.0 ask.1 p

-- the instance of an id, where it is there
abbrev pub instance_of : ObjectId → Memory → Option Instance
instance_of id m = elim (is_there id m.instances) [ true ↦ in_slot id.slot m.instances | false ↦ None ]

abbrev pub asked_of_row : List ℕ → ℕ → ℕ × ℕ → Option Instance → Parts → Parts
asked_of_row name i span None p = p
asked_of_row name i span (Some x) p = hole_asked i x.version span (hole_ask_at name i x.version span p) p

-- where another exchange may begin
unfoldable pub span_asked : List ℕ → ℕ → Next → ℕ × ℕ → Parts → Parts
span_asked name i next span p = elim (may_ask p.flow) [ true ↦ asked_of_row name i span (instance_of next.source p.cache) p | false ↦ p ]

abbrev pub need_asked : List ℕ → ℕ → Next → Option (ℕ × ℕ) → Parts → Parts
need_asked name i next None p = p
need_asked name i next (Some span) p = span_asked name i next span p

-- what its next bytes lack
abbrev pub next_asked : List ℕ → ℕ → Option Next → Parts → Parts
next_asked name i None p = p
next_asked name i (Some next) p = need_asked name i next (need_of next p.cache p.flow) p

abbrev pub seat_asked : List ℕ → ℕ → Option Seat → Parts → Parts
seat_asked name i None p = p
seat_asked name i (Some seat) p = elim (is_trying_in seat.course) [ true ↦ next_asked name i (next_of seat) p | false ↦ p ]

-- the client at this place asks for what it lacks
unfoldable pub filled_for : List ℕ → ℕ → Parts → Parts
filled_for name i p = seat_asked name i (slice_get p.seats i) p

abbrev pub filled_in : List ℕ → Option ℕ → Parts → Parts
filled_in name None p = p
filled_in name (Some i) p = filled_for name i p

-- those at these places, one behind the other
unfoldable pub all_filled : List ℕ → List ℕ → Parts → Parts
all_filled name [] p = p
all_filled name (i ∷ is) p = all_filled name is (filled_for name i p)

-- unless all is to be closed
abbrev pub filled : Bool → List ℕ → List ℕ → Parts → Parts
filled is_stopped name awake p = elim is_stopped [ true ↦ p | false ↦ all_filled name awake p ]
