-- What is kept of a head that was heard whole, and what is read of that (RFC 2616, sections 4.4, 5, 8.2.3 and 9.1).
use Rattle.std.specs.Prelude.{◌≡◌, ◌⊎◌, ℕ, Bool, true, false, ◌==◌, ◌&&◌, ◌||◌, not, nat_lt, is_ok, bytes_eq, codes, List, Option, Some, None, Result, Ok, Err, ⊤}
use Rattle.pp_client.specs.Requests.{Front as Heading, Nothing, Begun, Asked as IsAsked, Refused}
use Rattle.pp_framing.specs.Framing.{request_rule_of}
use Rattle.pp_framing.specs.declared.body.BodyRule.{BodyRule}
use Rattle.pp_framing.specs.declared.body.BodyRule.TheVariants.{Empty, Length, Chunked, ToEnd}
use Rattle.pp_framing.specs.declared.framing.FramingFault.{FramingFault}
use Rattle.pp_head.specs.Request.{Request}
use Rattle.pp_pipe.specs.Authentication.{binds_connection}
use Rattle.pp_plan.specs.Requests.{is_get, is_head}
use Rattle.pp_reply.specs.Keeping.{is_kept_open, wants_interim}
use Rattle.pp_reply.specs.Texts.{is_last}
use Rattle.pp_target.specs.Key.{key_at, key_in}
use Rattle.pp_target.specs.declared.target.TargetFault.{TargetFault}
use Rattle.pp_target.specs.declared.target.TargetFault.TheVariants.{NotAbsolute, NotHttp, BadHost, BadPort, TooLong, OutOfMemory}
use Rattle.pp_text.specs.Fields.{Field}
use Rattle.pp_seats.specs.declared.front.Asked.{Asked}
use Rattle.pp_seats.specs.declared.front.Front.{Front}
use Rattle.pp_seats.specs.declared.front.Front.TheVariants.{NoHeadYet, NoHead, Request as IsThere}
use Rattle.pp_seats.specs.declared.key.Key.{Key}

-- ---- a head that was heard whole

-- its key, and the status that it is refused with: that of its target comes first, then that of its framing; 500 for memory
abbrev pub IsKeyed : Option Key → Option ℕ → List ℕ → Option ℕ → Type 0
IsKeyed (Some key) refusal target framing = (key_at target ≡ Ok (key_in key.text.items key.place)) × (refusal ≡ framing)
IsKeyed None refusal target framing = ((fault : TargetFault) × (key_at target ≡ Err fault) × (refusal ≡ Some 400)) ⊎ (refusal ≡ Some 500)

-- of one whose target names nothing
abbrev pub status_of : TargetFault → ℕ
status_of NotAbsolute = 400
status_of NotHttp = 400
status_of BadHost = 400
status_of BadPort = 400
status_of TooLong = 400
status_of OutOfMemory = 500

abbrev pub length_in : Result BodyRule FramingFault → ℕ
length_in (Ok (Length n)) = n
length_in (Ok Empty) = 0
length_in (Ok Chunked) = 0
length_in (Ok ToEnd) = 0
length_in (Err fault) = 0

abbrev pub is_plain : List ℕ → Bool
is_plain method = is_get method || is_head method

-- "the GET and HEAD methods .. ought to be considered "safe"", and OPTIONS and TRACE have no side effects (section 9.1)
abbrev pub is_other_safe : List ℕ → Bool
is_other_safe method = bytes_eq method (codes "OPTIONS") || bytes_eq method (codes "TRACE")

abbrev pub waits_by : ℕ → List Field → Result BodyRule FramingFault → Bool
waits_by minor fields (Ok rule) = wants_interim minor rule fields
waits_by minor fields (Err fault) = false

-- a head that is refused for itself waits for no interim answer; where memory is refused for its key, it waits as its framing says
abbrev pub may_wait : Option ℕ → Bool
may_wait None = true
may_wait (Some status) = status == 500

-- all that is kept of it
abbrev pub asked_by : Option Key → Option ℕ → Request → Asked
asked_by key refusal head = record {
  key = key;
  refusal = refusal;
  minor = head.minor;
  body_len = length_in (request_rule_of head.fields);
  is_head = is_head head.method;
  is_safe = is_plain head.method || is_other_safe head.method;
  is_asked_once = not (is_plain head.method) || nat_lt 0 (length_in (request_rule_of head.fields));
  binds_connection = binds_connection head.fields;
  keeps_open = is_kept_open head.minor head.fields && is_ok (request_rule_of head.fields);
  expects_interim = may_wait refusal && waits_by head.minor head.fields (request_rule_of head.fields);
}

-- by what its framing is refused with
abbrev pub IsKeptOf : Asked → Request → Option ℕ → Type 0
IsKeptOf a head framing = IsKeyed a.key a.refusal head.target framing × (a ≡ asked_by a.key a.refusal head)

-- what stands at the front of what the client sent
abbrev pub IsFrontOf : Front → Heading → Type 0
IsFrontOf NoHeadYet Nothing = ⊤
IsFrontOf NoHeadYet Begun = ⊤
IsFrontOf (NoHead status) (Refused other) = status ≡ other
IsFrontOf (IsThere a) (IsAsked head framing) = IsKeptOf a head framing
IsFrontOf front heading = ⊥

-- ---- what is read of it

abbrev pub asked_in : Front → Option Asked
asked_in NoHeadYet = None
asked_in (NoHead status) = None
asked_in (IsThere a) = Some a

abbrev pub is_there_in : Front → Bool
is_there_in NoHeadYet = false
is_there_in (NoHead status) = true
is_there_in (IsThere a) = true

abbrev pub head_asked_in : Option Asked → Bool
head_asked_in None = false
head_asked_in (Some a) = a.is_head

abbrev pub body_len_in : Option Asked → ℕ
body_len_in None = 0
body_len_in (Some a) = a.body_len

-- behind a page with this status
abbrev pub keeps_in : ℕ → Option Asked → Bool
keeps_in status None = false
keeps_in status (Some a) = a.keeps_open && not (is_last status)

abbrev pub owned_in : Option Asked → Option Key
owned_in None = None
owned_in (Some a) = a.key

abbrev pub is_key_text : List ℕ → Option Key → Bool
is_key_text text None = false
is_key_text text (Some key) = bytes_eq key.text.items text
