-- What a response that is passed tells of rows: what an unsafe method changed, and what HEAD and GET show (RFC 2616, sections 9.4
-- and 13.10).
use Rattle.std.specs.Prelude.{ℕ, ◌≡◌, Bool, true, false, ◌==◌, ◌&&◌, ◌||◌, not, nat_lt, nat_le, List, [], ◌∷◌, ◌++◌, take, slice_get, codes, Option, Some, None, option_and_then}
use Rattle.pp_cache.specs.Named.{is_spelled_at, key_named, some_if}
use Rattle.pp_client.specs.Requests.{Front, Nothing, Begun, Asked, Refused, current_of}
use Rattle.pp_flow.specs.declared.entry.Exchange.{Exchange}
use Rattle.pp_flow.specs.declared.errand.Errand.{Errand}
use Rattle.pp_head.specs.Response.{Response}
use Rattle.pp_plan.specs.Requests.{is_get}
use Rattle.pp_seats.specs.declared.seat.Seat.{Seat}
use Rattle.pp_text.specs.Fields.{values_of}
use Rattle.pp_valid.specs.Conditions.{names_other_tag}
use Rattle.pp_valid.specs.Versions.{body_length}
use Rattle.pp_valid.specs.declared.version.Version.{Version}
use Rattle.pp_state.specs.Astray.{astray_where}
use Rattle.pp_state.specs.Ends.{Parts, cleared_key, cleared_of, cleared_row, known_version, seat_for}
use Rattle.pp_state.specs.Keys.{key_of}

-- "POST, PUT, DELETE": what they change is not known any more (section 13.10)
abbrev pub invalidates : Bool → Response → Bool
invalidates is_safe head = not is_safe && (nat_le 200 head.status && nat_lt head.status 400)

abbrev pub is_other_length : Version → Option ℕ → Bool
is_other_length v None = false
is_other_length v (Some n) = not (n == v.length)

-- "if the new field values indicate that the cached entity differs from the current entity" (section 9.4)
abbrev pub shows_other : Response → Version → Bool
shows_other head v = names_other_tag head.fields v.tag || is_other_length v (body_length head.fields)

-- nothing is there any more, or something else
abbrev pub disproves : Response → Version → Bool
disproves head v = (head.status == 404) || (head.status == 410) || ((head.status == 200) && shows_other head v)

-- ---- what an unsafe method changed

abbrev pub places_named : Response → List (List ℕ)
places_named head = values_of (codes "location") head.fields ++ values_of (codes "content-location") head.fields

-- the key of the site that a text names. Ours: one that there is no memory to read counts as it is spelled
abbrev pub named_as : Bool → List ℕ → List ℕ → Option (List ℕ)
named_as true site text = key_named site text
named_as false site text = some_if (is_spelled_at site text) text

-- and then this life goes astray
pub record ClearsNamed (site text : List ℕ) (old new : Parts) : Type 0 where
  pub is_read : Bool
  pub cleared : new ≡ astray_where (not is_read) (cleared_of (named_as is_read site text) old)

abbrev pub ClearsEach : List ℕ → List (List ℕ) → Parts → Parts → Type 0
ClearsEach site [] old new = new ≡ old
ClearsEach site (text ∷ texts) old new = (between : Parts) × ClearsNamed site text old between × ClearsEach site texts between new

-- "the host part MUST be the same as in the Request-URI": the site is the key up to its path
abbrev pub InvalidatesRows : Option (List ℕ) → ℕ → Response → Parts → Parts → Type 0
InvalidatesRows None path head old new = new ≡ old
InvalidatesRows (Some key) path head old new = ClearsEach (take path key) (places_named head) (cleared_key key old) new

-- ---- what GET and HEAD show

abbrev pub is_get_in : Front → Bool
is_get_in Nothing = false
is_get_in Begun = false
is_get_in (Asked request refusal) = is_get request.method
is_get_in (Refused status) = false

-- its client's request
abbrev pub is_get_of : Option Seat → Bool
is_get_of None = false
is_get_of (Some seat) = is_get_in (current_of seat.client.heard)

abbrev pub gets : Exchange → Parts → Bool
gets e p = is_get_of (option_and_then (slice_get p.seats) (seat_for e p.seats))

-- an ask that goes alone is not there without its client
abbrev pub reads : Exchange → Errand → Parts → Bool
reads e errand p = errand.asks_head || not (errand.is_asked_once || errand.binds_connection) || gets e p

abbrev pub is_disproved_by : Exchange → Errand → Response → Parts → Option Version → Bool
is_disproved_by e errand head p None = false
is_disproved_by e errand head p (Some v) = disproves head v && reads e errand p

-- the response shows that the row of its key is not what its origin has
abbrev pub is_disproved : Exchange → Errand → Response → Parts → Bool
is_disproved e errand head p = is_disproved_by e errand head p (known_version e.number p)

abbrev pub disproved : Exchange → Errand → Response → Parts → Parts
disproved e errand head p = elim (is_disproved e errand head p) [ true ↦ cleared_row e.number p | false ↦ p ]

-- ---- both

abbrev pub InvalidatesIf : Bool → Option (List ℕ) → ℕ → Response → Parts → Parts → Type 0
InvalidatesIf false key path head old new = new ≡ old
InvalidatesIf true key path head old new = InvalidatesRows key path head old new

pub record ClearsOutdated (e : Exchange) (errand : Errand) (head : Response) (old new : Parts) : Type 0 where
  pub between : Parts
  pub invalidated : InvalidatesIf (invalidates errand.is_safe head) (key_of e.number old.flow) errand.place.path head old between
  pub cleared : new ≡ disproved e errand head between
