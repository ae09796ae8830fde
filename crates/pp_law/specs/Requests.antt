-- Requests, one behind the other on the connection of a client (RFC 2616, sections 5, 4.4 and 8.2.3).
use Rattle.std.specs.Prelude.{ℕ, Bool, true, false, ◌&&◌, ◌||◌, not, nat_lt, drop, is_ok, bytes_eq, codes, Option, Some, None, Result, Ok, Err}
use Rattle.pp_framing.specs.Framing.{request_rule_of}
use Rattle.pp_framing.specs.declared.body.BodyRule.{BodyRule}
use Rattle.pp_framing.specs.declared.body.BodyRule.TheVariants.{Length}
use Rattle.pp_framing.specs.declared.framing.FramingFault.{FramingFault}
use Rattle.pp_framing.specs.declared.framing.FramingFault.TheVariants.{OtherCoding}
use Rattle.pp_head.specs.Read.{Read, Whole, TooLong, Bad, More}
use Rattle.pp_head.specs.Request.{Request, request_at}
use Rattle.pp_pipe.specs.Authentication.{binds_connection}
use Rattle.pp_plan.specs.Requests.{is_get, is_head}
use Rattle.pp_reply.specs.Keeping.{is_kept_open, wants_interim}
use Rattle.pp_reply.specs.Texts.{is_last}
use Rattle.pp_target.specs.Key.{Key, key_at}
use Rattle.pp_target.specs.declared.target.TargetFault.{TargetFault}
use Rattle.pp_law.specs.Lists.{Bytes, is_some_with}

-- a request whose head was heard whole, what its target names, and what delimits its body
pub record Parsed : Type 0 where
  pub head : Request
  pub key : Result Key TargetFault
  pub rule : Result BodyRule FramingFault

-- the current request of a client: none yet; a place where no head is, with the status that it is refused with; or a head
pub data Front : Type 0 where
  NoHeadYet : Front
  NoHead : ℕ → Front
  IsRequest : Parsed → Front

-- the request of a head that was heard whole
abbrev pub parsed_in : Front → Option Parsed
parsed_in (IsRequest r) = Some r
parsed_in front = None

abbrev pub parsed_of : Request → Parsed
parsed_of head = record { head = head; key = key_at head.target; rule = request_rule_of head.fields }

abbrev pub front_in : Read Request → Front
front_in (Whole head) = IsRequest (parsed_of head)
front_in TooLong = NoHead 431
front_in Bad = NoHead 400
front_in More = NoHeadYet

-- what some bytes begin with
unfoldable pub front_of : Bytes → Front
front_of bytes = front_in (request_at bytes)

-- the bytes behind the head
abbrev pub behind_head : Front → Bytes → Bytes
behind_head front bytes = elim (parsed_in front) [ None ↦ bytes | Some r ↦ drop r.head.length bytes ]

abbrev pub body_len_by : Result BodyRule FramingFault → ℕ
body_len_by (Ok (Length n)) = n
body_len_by rule = 0

abbrev pub body_len : Front → ℕ
body_len front = elim (parsed_in front) [ None ↦ 0 | Some r ↦ body_len_by r.rule ]

abbrev pub has_request : Front → Bool
has_request NoHeadYet = false
has_request front = true

-- ours: the refusals that the head alone brings, in this order: of its target, its coding, its length
abbrev pub refusal_by_rule : Result BodyRule FramingFault → Option ℕ
refusal_by_rule (Ok rule) = None
refusal_by_rule (Err OtherCoding) = Some 411
refusal_by_rule (Err fault) = Some 400

abbrev pub refusal_of : Parsed → Option ℕ
refusal_of r = elim r.key [ Err fault ↦ Some 400 | Ok key ↦ refusal_by_rule r.rule ]

abbrev pub key_in : Front → Option Key
key_in front = elim (parsed_in front) [ None ↦ None | Some r ↦ elim r.key [ Ok key ↦ Some key | Err fault ↦ None ] ]

-- whether the client's connection goes on behind the reply: not where the end of the request is in doubt
abbrev pub keeps_open : Parsed → Bool
keeps_open r = is_kept_open r.head.minor r.head.fields && is_ok r.rule

-- behind a page with this status
abbrev pub keeps_after : ℕ → Front → Bool
keeps_after status front = is_some_with keeps_open (parsed_in front) && not (is_last status)

abbrev pub asks_head : Front → Bool
asks_head front = is_some_with (λ r. is_head r.head.method) (parsed_in front)

-- "100-continue" (section 8.2.3); ours: the proxy answers it itself, unless its head is refused
abbrev pub expects_interim : Parsed → Bool
expects_interim r = elim (refusal_of r) [
  | Some status ↦ false
  | None ↦ elim r.rule [ Ok rule ↦ wants_interim r.head.minor rule r.head.fields | Err fault ↦ false ]
]

-- ours: such a request is asked once (section 8.1.2.2)
abbrev pub is_asked_once : Request → Bool
is_asked_once head = not (is_get head.method || is_head head.method) || nat_lt 0 (body_len_by (request_rule_of head.fields))

-- ours: it takes a connection for itself; so does one whose credentials would hold for the connection (RFC 4559, section 6)
abbrev pub goes_alone : Request → Bool
goes_alone head = is_asked_once head || binds_connection head.fields

-- "the GET and HEAD methods .. ought to be considered "safe"", and OPTIONS and TRACE have no side effects (section 9.1)
abbrev pub is_safe : Request → Bool
is_safe head = is_get head.method || is_head head.method || bytes_eq head.method (codes "OPTIONS") || bytes_eq head.method (codes "TRACE")
