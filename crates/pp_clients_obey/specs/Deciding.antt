-- A decision is what the law permits, and leads where the law leads, as far as its client alone goes (RFC 2616, sections 6 and 13).
use Rattle.std.specs.Prelude.{◌≡◌, ◌≤◌, ℕ, Bool, true, false, ◌||◌, is_some, length, List, [], ◌∷◌, Option, Some, None, option_map, Ok, Err, slice_set}
use Rattle.pp_objects.specs.declared.id.ObjectId.{ObjectId}
use Rattle.pp_reply.specs.Texts.{has_page}
use Rattle.pp_target.specs.Key.{text_of}
use Rattle.pp_world.specs.declared.happening.Happening.TheVariants.{Noted}
use Rattle.pp_world.specs.declared.note.Decision.{Decision}
use Rattle.pp_world.specs.declared.note.Decision.TheVariants.{Refuse, Hit, Part, Head, NotModified, Unsatisfiable, Relay, Validate, Fetch, Pass}
use Rattle.pp_world.specs.declared.note.Remark.TheVariants.{Taken}
use Rattle.pp_law.specs.Connections.{client}
use Rattle.pp_law.specs.Deciding.{decided, enter_row, is_for_memory, is_pass, span_of}
use Rattle.pp_law.specs.Decisions.{kind_of}
use Rattle.pp_law.specs.Lists.{Bytes, is_some_with}
use Rattle.pp_law.specs.Permits.{may_take}
use Rattle.pp_law.specs.Phases.{decides, in_phase}
use Rattle.pp_law.specs.Replies.{regained}
use Rattle.pp_law.specs.Requests.{key_in, parsed_in}
use Rattle.pp_law.specs.State.{State, Client, Deciding}
use Rattle.pp_law.specs.Table.{row, row_for}
use Rattle.pp_obeys.specs.Moves.{Leads}
use Rattle.pp_seats.specs.declared.account.Account.{Account}
use Rattle.pp_seats.specs.declared.seat.Seat.{Seat}
use Rattle.pp_seats.specs.Courses.{has_begun}
use Rattle.pp_seats.specs.Decided.{answering, asking, expects_in, page_for, paged, with_interim}
use Rattle.pp_seats.specs.Dues.{is_refused_in}
use Rattle.pp_seats.specs.Heads.{asked_in}
use Rattle.pp_seats.specs.Seats.{is_undecided_in}
use Rattle.pp_seats_law.specs.Clients.{AreShown}
use Rattle.pp_seats_law.specs.Decided.{expects_of}
use Rattle.pp_clients_obey.specs.Hearing.{AreSeen, Sits}

-- decisions are taken, this one may be, and the seats show the clients; its interim answer is expected as the law has it, which is so
-- unless memory was refused for a target that has no key
pub record IsToTake (number : ℕ → ℕ) (owed : List Bytes) (n index : ℕ) (d : Decision) (seat : Seat) (seats : List Seat) (s : State) : Type 0 where
  pub behind : is_some s.has_made_room ≡ true → is_for_memory d ≡ false
  pub taking : decides s ≡ true
  pub may : may_take s n index d ≡ true
  pub shown : AreShown number s.settings.name owed seats s.clients
  pub expects : (c : Client) → client s n ≡ Some c → expects_in (asked_in seat.front) ≡ expects_of c.front

-- as the law has it, before attempts count anew
abbrev pub taken : Client → Decision → State → State
taken c d s = record (decided c d (in_phase Deciding s)) { forgotten = []; has_made_room = None }

-- it leads there, and the seats show the clients
abbrev pub IsTaken : (ℕ → ℕ) → List Bytes → ℕ → ℕ → Decision → List Seat → Client → State → Type 0
IsTaken number owed n index d seats c s = Leads (Noted (Taken n index d) ∷ []) s (regained (taken c d s)) × AreSeen number owed seats (taken c d s)

-- no reply has begun, and what is no head was not decided before
pub record IsOpen (seat : Seat) : Type 0 where
  pub unbegun : has_begun seat ≡ false
  pub first : (is_undecided_in seat.stage || is_some (asked_in seat.front)) ≡ true

-- ---- a page

abbrev pub PagesLead : Type 0
PagesLead = (number : ℕ → ℕ) (n i index status : ℕ) (account : Account) (owed : List Bytes) (seats : List Seat) (seat : Seat) (c : Client) (s : State) → client s n ≡ Some c → Sits n i seats seat → IsOpen seat → has_page status ≡ true → length (page_for status seat.front) ≤ 20480
    → IsToTake number owed n index (Refuse status) seat seats s → IsTaken number owed n index (Refuse status) (slice_set seats i (record (paged status (with_interim seat)) { account = account })) c s

-- ---- an ask

abbrev pub is_ask : Decision → Bool
is_ask (Refuse status) = false
is_ask (Hit from to) = false
is_ask (Part from to) = false
is_ask Head = false
is_ask NotModified = false
is_ask Unsatisfiable = false
is_ask Relay = false
is_ask Validate = true
is_ask Fetch = true
is_ask Pass = true

-- there is something to ask: of a request that names a key, and to check a row where there is one
abbrev pub has_ask : State → Client → Decision → Bool
has_ask s c d = is_some_with (λ r. elim r.key [ Ok key ↦ is_some (kind_of r.head (row_for s r.head (text_of key)) d) | Err fault ↦ false ]) (parsed_in c.front)

pub record IsToAsk (number : ℕ → ℕ) (owed : List Bytes) (n index : ℕ) (d : Decision) (seat : Seat) (seats : List Seat) (s : State) : Type 0 where
  pub take : IsToTake number owed n index d seat seats s
  pub asks : (c : Client) → client s n ≡ Some c → has_ask (enter_row c d (in_phase Deciding s)) c d ≡ true

abbrev pub AsksLead : Type 0
AsksLead = (number : ℕ → ℕ) (n i index : ℕ) (d : Decision) (owed : List Bytes) (seats : List Seat) (seat : Seat) (c : Client) (s : State) → client s n ≡ Some c → Sits n i seats seat → IsOpen seat → is_ask d ≡ true → is_refused_in seat.brought ≡ false
    → IsToAsk number owed n index d seat seats s → IsTaken number owed n index d (slice_set seats i (asking (is_pass d) (with_interim seat))) c s

-- ---- a reply by the row, or by the response that is passed

abbrev pub is_by_row : Decision → Bool
is_by_row (Refuse status) = false
is_by_row (Hit from to) = true
is_by_row (Part from to) = true
is_by_row Head = true
is_by_row NotModified = true
is_by_row Unsatisfiable = true
is_by_row Relay = false
is_by_row Validate = false
is_by_row Fetch = false
is_by_row Pass = false

-- the row of its key
abbrev pub row_of_key : State → Client → Option ℕ
row_of_key s c = elim (key_in c.front) [ None ↦ None | Some key ↦ option_map (λ x. x.id) (row s (text_of key)) ]

pub record IsToFollow (number : ℕ → ℕ) (owed : List Bytes) (n index : ℕ) (d : Decision) (id : ObjectId) (seat : Seat) (seats : List Seat) (s : State) : Type 0 where
  pub take : IsToTake number owed n index d seat seats s
  pub known : (c : Client) → client s n ≡ Some c → row_of_key (enter_row c d (in_phase Deciding s)) c ≡ Some (number id.life)

abbrev pub FollowsLead : Type 0
FollowsLead = (number : ℕ → ℕ) (n i index : ℕ) (d : Decision) (id : ObjectId) (owed : List Bytes) (seats : List Seat) (seat : Seat) (c : Client) (s : State) → client s n ≡ Some c → Sits n i seats seat → IsOpen seat → is_by_row d ≡ true → is_refused_in seat.brought ≡ false
    → IsToFollow number owed n index d id seat seats s → IsTaken number owed n index d (slice_set seats i (answering d (Some id) (span_of d) (with_interim seat))) c s

abbrev pub RelaysLead : Type 0
RelaysLead = (number : ℕ → ℕ) (n i index : ℕ) (owed : List Bytes) (seats : List Seat) (seat : Seat) (c : Client) (s : State) → client s n ≡ Some c → Sits n i seats seat → IsOpen seat → is_refused_in seat.brought ≡ false → IsToTake number owed n index Relay seat seats s
    → IsTaken number owed n index Relay (slice_set seats i (answering Relay None (0, 0) (with_interim seat))) c s
