-- The requests of a client, one behind the other (RFC 2616, sections 4.4, 5 and 8.1.2.2).
use Rattle.std.specs.Prelude.{ℕ, ◌-◌, ◌≡◌, Bool, true, false, List, [], ◌∷◌, ◌++◌, length, take, drop, Option, Some, None, Result, Ok, Err, ⊤}
use Rattle.pp_framing.specs.Framing.{request_rule_of}
use Rattle.pp_framing.specs.declared.body.BodyRule.{BodyRule}
use Rattle.pp_framing.specs.declared.framing.FramingFault.{FramingFault}
use Rattle.pp_framing.specs.declared.framing.FramingFault.TheVariants.{TwoLengths, BadLength, OtherCoding}
use Rattle.pp_head.specs.Read.{Read, Whole, TooLong, Bad, More}
use Rattle.pp_head.specs.Request.{Request, request_at}
use Rattle.pp_client.specs.declared.body.Body.{Body}
use Rattle.pp_client.specs.declared.body.Body.TheVariants.{Dropped, Over}
use Rattle.pp_client.specs.Bodies.{IsIdle, IsKept, body_by, kept, later, shortened, unread, unwanted}

-- what stands at the front of some bytes: nothing; what may become the head of a request; a request, and the
-- status that its framing is refused with; or no request, and the status of the page
pub data Front : Type 0 where
  Nothing Begun : Front
  Asked : Request → Option ℕ → Front
  Refused : ℕ → Front

-- "411 Length Required: the server refuses to accept the request without a defined Content-Length"; "400 Bad
-- Request" where lengths differ, or one is no number
abbrev pub fault_of : Result BodyRule FramingFault → Option ℕ
fault_of (Ok rule) = None
fault_of (Err OtherCoding) = Some 411
fault_of (Err TwoLengths) = Some 400
fault_of (Err BadLength) = Some 400

-- "431 Request Header Fields Too Large" (RFC 6585, section 5), and "400 Bad Request"
abbrev pub front_in : Read Request → Front
front_in (Whole request) = Asked request (fault_of (request_rule_of request.fields))
front_in TooLong = Refused 431
front_in Bad = Refused 400
front_in More = Begun

abbrev pub front_of : List ℕ → Front
front_of [] = Nothing
front_of (b ∷ bytes) = front_in (request_at (b ∷ bytes))

-- ours: how many bytes are heard ahead, and the longest head
abbrev pub heard_len : ℕ
heard_len = 16384

-- what was heard of the requests that are not answered: the head of the current one, once it is whole; what was
-- heard behind it and not taken, or all, while no head is whole; and what its body is
pub record Heard : Type 0 where
  pub head : List ℕ
  pub rest : List ℕ
  pub body : Body

-- nothing yet
abbrev pub silent : Heard
silent = record { head = []; rest = []; body = Dropped 0 }

-- the current request is the one at the front of what was heard
abbrev pub current_of : Heard → Front
current_of h = front_of (h.head ++ h.rest)

-- the head counts as taken
abbrev pub room_of : Heard → ℕ
room_of h = heard_len - length h.rest

-- the request at the front is the current one, and the bytes behind its head are its body and what follows
abbrev pub split_at : ℕ → Body → List ℕ → Heard
split_at len body bytes = record { head = take len bytes; rest = kept body (drop len bytes); body = body }

abbrev pub split_by : Read Request → Heard → Heard
split_by (Whole request) h = split_at request.length (body_by (request_rule_of request.fields)) h.rest
split_by TooLong h = h
split_by Bad h = h
split_by More h = h

-- a request becomes current as soon as its head is whole and none is current
abbrev pub with_next : Heard → Heard
with_next h = elim h.head [ [] ↦ split_by (request_at h.rest) h | b ∷ head ↦ h ]

-- more bytes came
abbrev pub heard_in : List ℕ → Heard → Heard
heard_in bytes h = with_next (record h { rest = h.rest ++ kept h.body bytes; body = later h.body (length bytes) })

-- the heard bytes of the current request's body that were not taken
abbrev pub body_in : Heard → List ℕ
body_in h = take (unread h.body) h.rest

-- the first of them are taken
abbrev pub body_taken : ℕ → Heard → Heard
body_taken n h = record h { rest = drop n h.rest; body = shortened h.body n }

-- nobody reads the rest of that body any more: what is there is dropped, and so is what comes
abbrev pub body_dropped : Heard → Heard
body_dropped h = record h { rest = drop (unread h.body) h.rest; body = unwanted h.body (length h.rest) }

-- the current request was answered: the next one stands behind its body, or behind none where what stands is
-- no request
abbrev pub answered : Heard → Heard
answered h = elim h.head [
  | [] ↦ record { head = []; rest = []; body = Over }
  | b ∷ head ↦ with_next (record (body_dropped h) { head = [] })
]

-- a reply can be given to what stands: a request, or none that can come
abbrev pub is_answerable : Front → Bool
is_answerable Nothing = false
is_answerable Begun = false
is_answerable (Asked request fault) = true
is_answerable (Refused status) = true

-- the bytes that follow a head leave it as it is read
abbrev pub IsHead : List ℕ → Type 0
IsHead [] = ⊤
IsHead (b ∷ head) = (more : List ℕ) → request_at ((b ∷ head) ++ more) ≡ request_at (b ∷ head)

-- what holds of all that is heard
pub record IsInStep (h : Heard) : Type 0 where
  pub head : IsHead h.head
  pub kept : IsKept h.rest h.body
  pub idle : IsIdle h.head h.body
