-- What a decision does: a page, an exchange, or a reply by the row (RFC 2616, sections 13 and 14).
use Rattle.std.specs.Prelude.{ℕ, ◌≡◌, ◌+◌, ◌%◌, Bool, true, false, ◌==◌, ◌&&◌, ◌||◌, not, nat_lt, length, List, [], ◌∷◌, ◌++◌, is_some, slice_get, Option, Some, None, option_map, option_and_then}
use Rattle.pp_cache.specs.Memory.{Memory}
use Rattle.pp_client.specs.Requests.{Front, Nothing, Begun, Asked as IsAsked, Refused, current_of}
use Rattle.pp_flow.specs.Changes.{Exchanges, entry_of}
use Rattle.pp_flow.specs.Entries.{begun_with}
use Rattle.pp_flow.specs.Errands.{asks_as_asked, asks_range}
use Rattle.pp_flow.specs.declared.entry.Aim.{Aim}
use Rattle.pp_flow.specs.declared.entry.Aim.TheVariants.{Own, Pass as Through}
use Rattle.pp_flow.specs.declared.entry.Entry.{Entry}
use Rattle.pp_flow.specs.declared.entry.Exchange.{Exchange}
use Rattle.pp_flow.specs.declared.errand.Body.TheVariants.{Pending}
use Rattle.pp_flow.specs.declared.errand.Errand.{Errand}
use Rattle.pp_flow.specs.declared.errand.Kind.{Kind}
use Rattle.pp_flow.specs.declared.errand.Kind.TheVariants.{Whole, Range as OfRange, Hole, Check, Pass as AsPassed}
use Rattle.pp_fresh.specs.Guessing.{allows_guess}
use Rattle.pp_head.specs.Request.{Request}
use Rattle.pp_objects.specs.Changes.{changed_in, followed, marked}
use Rattle.pp_objects.specs.Instances.{Instance, followers_of, id_of, in_slot, is_there, row_of}
use Rattle.pp_objects.specs.declared.id.ObjectId.{ObjectId}
use Rattle.pp_ranges.specs.Ranges.{range_of}
use Rattle.pp_ranges.specs.declared.range.Range.{Range}
use Rattle.pp_ranges.specs.declared.range.Range.TheVariants.{Span, From, Last}
use Rattle.pp_seats.specs.Accounts.{decided}
use Rattle.pp_seats.specs.Decided.{answering, asking, paged, with_interim}
use Rattle.pp_seats.specs.Heads.{asked_in, owned_in}
use Rattle.pp_seats.specs.declared.front.Asked.{Asked}
use Rattle.pp_seats.specs.declared.key.Key.{Key}
use Rattle.pp_seats.specs.declared.seat.Next.{Next}
use Rattle.pp_seats.specs.declared.seat.Seat.{Seat}
use Rattle.pp_valid.specs.Codings.{accepts_only_identity}
use Rattle.pp_world.specs.declared.note.Decision.{Decision}
use Rattle.pp_world.specs.declared.note.Decision.TheVariants.{Refuse, Hit, Part, Head, NotModified, Unsatisfiable, Relay, Validate, Fetch, Pass}
use Rattle.pp_state.specs.Accounts.{accounts_at}
use Rattle.pp_state.specs.Bringing.{serves}
use Rattle.pp_decide.specs.Decide.{fits, kind_of, text_by}
use Rattle.pp_state.specs.Pins.{is_for_memory}
use Rattle.pp_state.specs.Ends.{Parts, exchange_of, left_at_decision, left_source, on_seat}
use Rattle.pp_state.specs.Passing.{may_answer}
use Rattle.pp_state.specs.Places.{IsChangedAt}
use Rattle.pp_state.specs.Readers.{next_at}
use Rattle.pp_state.specs.declared.state.State.{State}

-- ---- where there is no memory to ask, it is refused

abbrev pub asks_origin : Decision → Bool
asks_origin Pass = true
asks_origin Fetch = true
asks_origin Validate = true
asks_origin d = false

-- ours: there may be 1,024 exchanges
abbrev pub may_ask : Exchanges → Bool
may_ask f = nat_lt (length f.waiting + length f.placed) 1024 && nat_lt f.begun 18446744073709551615

-- the key of the request of the client at this place
abbrev pub key_for : ℕ → List Seat → Option Key
key_for i seats = option_and_then (λ seat. owned_in (asked_in seat.front)) (slice_get seats i)

abbrev pub may_ask_for : ℕ → State → Bool
may_ask_for i s = is_some (key_for i s.seats.items) && may_ask s.flow

abbrev pub afforded : ℕ → Decision → State → Decision
afforded i d s = elim (asks_origin d && not (may_ask_for i s)) [ true ↦ Refuse 500 | false ↦ d ]

-- ---- the row of its key

abbrev pub row_by : Option Key → Memory → Option Instance
row_by None m = None
row_by (Some key) m = row_of key.text.items m.instances

abbrev pub row_at : ℕ → Parts → Option Instance
row_at i p = row_by (key_for i p.seats) p.cache

abbrev pub with_marked : Option Instance → Memory → Memory
with_marked None m = m
with_marked (Some x) m = record m { instances = marked x.slot m.instances }

abbrev pub marked_at : ℕ → Parts → Parts
marked_at i p = record p { cache = with_marked (row_at i p) p.cache }

-- each decision but one for want of memory marks it
abbrev pub marked_for : ℕ → Decision → Parts → Parts
marked_for i d p = elim (is_for_memory d) [ true ↦ p | false ↦ marked_at i p ]

-- ---- a page, which counts where a request, or what is none, waits for its reply; what the operator's log is to say of it is beside it

abbrev pub IsPagedIf : Bool → ℕ → Seat → Seat → Type 0
IsPagedIf true status old new = new ≡ record (paged status old) { account = new.account }
IsPagedIf false status old new = new ≡ old

abbrev pub IsPaged : ℕ → Seat → Seat → Type 0
IsPaged status old new = IsPagedIf (may_answer old.client) status old new

-- the client at this place gets it, and all else stays
pub record GetsPage (status i : ℕ) (old new : Parts) : Type 0 where
  pub seat : IsChangedAt (IsPaged status) i old.seats new.seats
  pub rest : record new { seats = old.seats } ≡ old

-- its request follows and asks nothing any more
unfoldable pub left_all : ℕ → Parts → Parts
left_all i p = left_at_decision i (left_source i (on_seat i with_interim p))

abbrev pub IsRefused : ℕ → ℕ → Parts → Parts → Type 0
IsRefused i status old new = GetsPage status i (left_all i old) new

-- ---- an exchange

-- bytes of a version are asked for, and no wish of the client for codings goes with them
abbrev pub asks_hole : Kind → Bool
asks_hole Whole = false
asks_hole (OfRange first last) = false
asks_hole (Hole first last tag) = true
asks_hole (Check tag) = false
asks_hole AsPassed = false

-- nothing of it is asked yet
abbrev pub errand_by : Asked → Key → Request → Kind → Errand
errand_by a key head kind = record {
  kind = kind;
  place = key.place;
  is_moved = false;
  is_asked_once = a.is_asked_once;
  asks_head = false;
  is_safe = a.is_safe;
  binds_connection = a.binds_connection;
  accepts_only_identity = asks_hole kind || accepts_only_identity head.fields;
  allows_guess = allows_guess key.text.items head.fields;
  asked = 0;
  body_left = 0;
  requested = 0;
  body = Pending;
}

-- an errand, and its text
abbrev pub Ask : Type 0
Ask = Errand × List ℕ

-- what is asked has to fit into an ask
abbrev pub ask_by : List ℕ → Asked → Key → Request → Kind → Option Ask
ask_by name a key head kind = elim (fits (text_by name head key kind)) [ true ↦ Some (errand_by a key head kind, text_by name head key kind) | false ↦ None ]

-- ours: a range is asked for from the front of a chunk on
abbrev pub is_moved_in : Option Range → Bool
is_moved_in None = false
is_moved_in (Some (Span first last)) = not (first % 4096 == 0)
is_moved_in (Some (From first)) = not (first % 4096 == 0)
is_moved_in (Some (Last n)) = false

-- one that is passed asks the body of its request too
abbrev pub of_request : Asked → ℕ → Request → Errand → Errand
of_request a body_left head errand = record errand {
  is_moved = asks_range errand.kind && is_moved_in (range_of head.fields);
  asks_head = asks_as_asked errand.kind && a.is_head;
  body_left = elim (asks_as_asked errand.kind) [ true ↦ body_left | false ↦ 0 ];
}

abbrev pub ask_for_kind : List ℕ → Seat → Asked → Key → Request → Option Kind → Option Ask
ask_for_kind name seat a key head None = None
ask_for_kind name seat a key head (Some kind) = option_map (λ ask. (of_request a seat.body_left head ask.0, ask.1)) (ask_by name a key head kind)

-- what a decision asks an origin, by the row of its key
abbrev pub ask_for : List ℕ → Decision → Memory → Seat → Asked → Key → Request → Option Ask
ask_for name d m seat a key head = ask_for_kind name seat a key head (kind_of head (option_map (λ i. i.version) (row_of key.text.items m.instances)) d)

-- what is asked for a request that has a key, by what is kept of that and by its head, which stands at the front of what its client sent
abbrev pub by_front : (Request → Option Ask) → Front → Option Ask
by_front to Nothing = None
by_front to Begun = None
by_front to (IsAsked head fault) = to head
by_front to (Refused status) = None

abbrev pub by_key : (Key → Request → Option Ask) → Front → Option Key → Option Ask
by_key to front None = None
by_key to front (Some key) = by_front (to key) front

abbrev pub by_asked : (Asked → Key → Request → Option Ask) → Front → Option Asked → Option Ask
by_asked to front None = None
by_asked to front (Some a) = by_key (to a) front a.key

abbrev pub by_seat : (Seat → Asked → Key → Request → Option Ask) → Option Seat → Option Ask
by_seat to None = None
by_seat to (Some seat) = by_asked (to seat) (current_of seat.client.heard) (asked_in seat.front)

-- of the client at this place
abbrev pub ask_at : List ℕ → ℕ → Decision → Parts → Option Ask
ask_at name i d p = by_seat (ask_for name d p.cache) (slice_get p.seats i)

-- it begins, where there may be another
abbrev pub begun_by : Key → ℕ → Aim → Errand → List ℕ → Exchanges → Exchanges
begun_by key client aim errand text f = elim (may_ask f) [
  | true ↦ record f { waiting = f.waiting ++ begun_with f.begun client key.text.items aim errand text ∷ []; begun = f.begun + 1 }
  | false ↦ f
]

abbrev pub begun_of : Option Key → ℕ → Aim → Errand → List ℕ → Exchanges → Exchanges
begun_of None client aim errand text f = f
begun_of (Some key) client aim errand text f = begun_by key client aim errand text f

abbrev pub begun_for : Option Seat → Aim → Errand → List ℕ → Exchanges → Exchanges
begun_for None aim errand text f = f
begun_for (Some seat) aim errand text f = begun_of (owned_in (asked_in seat.front)) seat.client.id aim errand text f

abbrev pub begun_at : ℕ → Aim → Errand → List ℕ → Parts → Parts
begun_at i aim errand text p = record p { flow = begun_for (slice_get p.seats i) aim errand text p.flow }

-- the one begun last is the only one of a request
unfoldable pub exchange_begun : ℕ → Aim → Errand → List ℕ → Parts → Parts
exchange_begun i aim errand text p = begun_at i aim errand text (left_at_decision i p)

abbrev pub is_pass : Decision → Bool
is_pass Pass = true
is_pass d = false

abbrev pub aim_for : Bool → Aim
aim_for passes = elim passes [ true ↦ Through | false ↦ Own ]

unfoldable pub asked_with : ℕ → Decision → Ask → Parts → Parts
asked_with i d ask p =
    on_seat i (asking (is_pass d)) (exchange_begun i (aim_for (is_pass d)) ask.0 ask.1 (left_source i (on_seat i with_interim p)))

abbrev pub asked_by : ℕ → Decision → Option Ask → Parts → Parts
asked_by i d None p = p
asked_by i d (Some ask) p = asked_with i d ask p

abbrev pub origin_asked : List ℕ → ℕ → Decision → Parts → Parts
origin_asked name i d p = asked_by i d (ask_at name i d p) p

-- ---- a reply by the row, or by a response that is passed

-- one client more reads from the instance. Ours: 256 may
abbrev pub may_follow : ObjectId → Memory → Bool
may_follow id m = is_there id m.instances && nat_lt (followers_of (in_slot id.slot m.instances)) 256

abbrev pub followed_more : ObjectId → Memory → Memory
followed_more id m = elim (may_follow id m) [ true ↦ record m { instances = changed_in id.slot followed m.instances } | false ↦ m ]

abbrev pub serves_next : Option Next → Memory → Entry → Bool
serves_next None m e = false
serves_next (Some next) m e = serves next m e

abbrev pub serves_at : ℕ → Parts → Option Entry → Bool
serves_at i p None = false
serves_at i p (Some e) = serves_next (next_at p.seats i) p.cache e

-- the exchange brings something of what the client at this place still wants
abbrev pub is_served_by : ℕ → ℕ → Parts → Bool
is_served_by i number p = serves_at i p (entry_of number p.flow)

abbrev pub left_if_useless : ℕ → Option Exchange → Parts → Parts
left_if_useless i None p = p
left_if_useless i (Some e) p = elim (is_served_by i e.number p) [ true ↦ p | false ↦ left_at_decision i p ]

-- the request leaves an exchange that brings nothing of it
unfoldable pub left_useless : ℕ → Parts → Parts
left_useless i p = left_if_useless i (exchange_of i p) p

unfoldable pub answered_at : ℕ → Decision → Option ObjectId → ℕ × ℕ → Parts → Parts
answered_at i d source span p = on_seat i (answering d source span) (left_source i p)

abbrev pub following : ObjectId → Parts → Parts
following id p = record p { cache = followed_more id p.cache }

unfoldable pub followed_by : ℕ → Decision → ℕ × ℕ → ObjectId → Parts → Parts
followed_by i d span id p = left_useless i (answered_at i d (Some id) span (following id (on_seat i with_interim p)))

abbrev pub row_followed : ℕ → Decision → ℕ × ℕ → Option Instance → Parts → Parts
row_followed i d span None p = p
row_followed i d span (Some x) p = followed_by i d span (id_of x) p

abbrev pub followed_at : ℕ → Decision → ℕ × ℕ → Parts → Parts
followed_at i d span p = row_followed i d span (row_at i p) p

abbrev pub relayed : ℕ → Parts → Parts
relayed i p = answered_at i Relay None (0, 0) (on_seat i with_interim p)

-- ---- all

abbrev pub Does : List ℕ → ℕ → Decision → Parts → Parts → Type 0
Does name i (Refuse status) old new = IsRefused i status old new
Does name i Pass old new = new ≡ origin_asked name i Pass old
Does name i Fetch old new = new ≡ origin_asked name i Fetch old
Does name i Validate old new = new ≡ origin_asked name i Validate old
Does name i Relay old new = new ≡ relayed i old
Does name i (Hit from to) old new = new ≡ followed_at i (Hit from to) (from, to) old
Does name i (Part from to) old new = new ≡ followed_at i (Part from to) (from, to) old
Does name i Head old new = new ≡ followed_at i Head (0, 0) old
Does name i NotModified old new = new ≡ followed_at i NotModified (0, 0) old
Does name i Unsatisfiable old new = new ≡ followed_at i Unsatisfiable (0, 0) old

-- the operator's log is told of it
abbrev pub accounted : ℕ → Decision → Parts → Parts
accounted i d p = record p { seats = accounts_at i (decided d) p.seats }

-- it is taken for the client at this place
abbrev pub Takes : List ℕ → ℕ → Decision → Parts → Parts → Type 0
Takes name i d old new = Does name i d (accounted i d (marked_for i d old)) new
