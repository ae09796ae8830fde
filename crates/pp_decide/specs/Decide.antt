-- What is decided for a request, by the state of a turn (RFC 2616, sections 13 and 14; RFC 6585, section 5).
use Rattle.std.specs.Prelude.{ℕ, Bool, true, false, nat_le, length, List, Option, Some, None, option_map}
use Rattle.pp_ask.specs.Texts.{ask_text}
use Rattle.pp_cache.specs.Memory.{Memory}
use Rattle.pp_client.specs.Requests.{Front, Nothing, Begun, Asked, Refused, current_of}
use Rattle.pp_flow.specs.declared.errand.Kind.{Kind}
use Rattle.pp_flow.specs.declared.errand.Kind.TheVariants.{Check, Pass as AsPassed}
use Rattle.pp_head.specs.Request.{Request}
use Rattle.pp_objects.specs.Instances.{Instance, id_of, row_of}
use Rattle.pp_plan.specs.Decision.{decision}
use Rattle.pp_plan.specs.Fetch.{fetch_range}
use Rattle.pp_plan.specs.Row.{Row}
use Rattle.pp_plan.specs.Spans.{resolved, span_in}
use Rattle.pp_seats.specs.Dues.{begun_in, refused_in}
use Rattle.pp_seats.specs.Fetches.{asked_as, fetch_by}
use Rattle.pp_seats.specs.Heads.{asked_in, owned_in}
use Rattle.pp_seats.specs.declared.key.Key.{Key}
use Rattle.pp_seats.specs.declared.seat.Seat.{Seat}
use Rattle.pp_target.specs.Key.{key_in}
use Rattle.pp_valid.specs.declared.version.Version.{Version}
use Rattle.pp_world.specs.declared.note.Decision.{Decision}
use Rattle.pp_world.specs.declared.note.Decision.TheVariants.{Refuse, Validate, Fetch, Pass}
use Rattle.pp_state.specs.Bringing.{is_span_held}
use Rattle.pp_state.specs.declared.state.State.{State}

-- ---- what is asked

-- the ask of a decision that asks an origin, by the version of the row
abbrev pub kind_of : Request → Option Version → Decision → Option Kind
kind_of head version Fetch = Some (fetch_by (fetch_range head.fields))
kind_of head version Validate = option_map (λ v. Check v.tag) version
kind_of head version Pass = Some AsPassed
kind_of head version d = None

abbrev pub text_by : List ℕ → Request → Key → Kind → List ℕ
text_by name head key kind = ask_text (asked_as kind) head (key_in key.text.items key.place) name

abbrev pub text_for : State → Request → Key → Kind → List ℕ
text_for s head key kind = text_by s.name.items head key kind

-- ours: the text of an ask has at most 16,384 bytes
abbrev pub fits : List ℕ → Bool
fits text = nat_le (length text) 16384

-- what is asked has to fit into an ask
abbrev pub if_fits : State → Request → Key → Option Kind → Decision → Decision
if_fits s head key None d = d
if_fits s head key (Some kind) d = elim (fits (text_for s head key kind)) [ true ↦ d | false ↦ Refuse 431 ]

-- ---- what is decided

abbrev pub shown_span : Request → Version → ℕ × ℕ
shown_span head version = span_in version.length (resolved head.fields version)

-- the row that a decision sees
abbrev pub row_seen : Memory → Request → Instance → Row
row_seen m head i = record { version = i.version; fields = i.fields; times = i.times; held = is_span_held (id_of i) (shown_span head i.version) m }

abbrev pub decide_by_row : State → Seat → Request → Option Instance → Decision
decide_by_row s seat head row = decision head (option_map (row_seen s.cache head) row) (begun_in seat.brought (option_map id_of row)) s.now

abbrev pub decide_request : State → Seat → Request → Key → Option Instance → Decision
decide_request s seat head key row =
    let d = decide_by_row s seat head row in
    if_fits s head key (kind_of head (option_map (λ i. i.version) row) d) d

-- by what stands at the front of what its client sent
abbrev pub decide_front : State → Seat → Key → Front → Decision
decide_front s seat key Nothing = Refuse 400
decide_front s seat key Begun = Refuse 400
decide_front s seat key (Asked head fault) = decide_request s seat head key (row_of key.text.items s.cache.instances)
decide_front s seat key (Refused status) = Refuse 400

abbrev pub decide_for : State → Seat → Key → Decision
decide_for s seat key = decide_front s seat key (current_of seat.client.heard)

-- first what the head alone refuses; none while no request is there
abbrev pub decide : State → Seat → Option Decision
decide s seat = elim (refused_in seat.front) [ Some status ↦ Some (Refuse status) | None ↦ option_map (decide_for s seat) (owned_in (asked_in seat.front)) ]
