-- How what a client sent stands for its current request in the law (RFC 2616, sections 4.4, 5 and 8.2.3).
use Rattle.std.specs.Prelude.{◌≡◌, ◌⊎◌, ℕ, Bool, true, false, not, is_ok, [], ◌∷◌, ◌++◌, Option, Some, None, Ok, ⊤}
use Rattle.pp_client.specs.Bodies.{IsIdle, IsKept}
use Rattle.pp_client.specs.Requests.{Heard}
use Rattle.pp_client.specs.declared.body.Body.{Body}
use Rattle.pp_client.specs.declared.body.Body.TheVariants.{Unread, Dropped, Over}
use Rattle.pp_head.specs.Read.{Whole}
use Rattle.pp_head.specs.Request.{request_at}
use Rattle.pp_pipe.specs.Authentication.{binds_connection}
use Rattle.pp_plan.specs.Requests.{is_head}
use Rattle.pp_target.specs.Key.{key_in}
use Rattle.pp_law.specs.Lists.{Bytes, is_some_with}
use Rattle.pp_law.specs.Requests.{Front, Parsed, NoHeadYet, NoHead, IsRequest, body_len_by, expects_interim, front_of, is_asked_once, is_safe, keeps_open, parsed_in, refusal_of}
use Rattle.pp_seats.specs.declared.front.Asked.{Asked}
use Rattle.pp_seats.specs.declared.front.Front.{Front as SeatFront}
use Rattle.pp_seats.specs.declared.front.Front.TheVariants.{NoHeadYet as NoneYet, NoHead as NoneThere, Request}
use Rattle.pp_seats.specs.declared.key.Key.{Key as OwnedKey}

-- the key is owned, and the refusal is that of the head; or the target has none; or memory was refused for it, which is a refusal
-- of its own, and not the head's
abbrev pub ShowsKey : Option OwnedKey → Option ℕ → Parsed → Type 0
ShowsKey (Some key) refusal r = (r.key ≡ Ok (key_in key.text.items key.place)) × (refusal ≡ refusal_of r)
ShowsKey None refusal r = ((is_ok r.key ≡ false) × (refusal ≡ Some 400)) ⊎ (refusal ≡ Some 500)

-- the head itself is kept by the client alone: of it, what decisions and replies rest on
pub record ShowsAsked (a : Asked) (r : Parsed) : Type 0 where
  pub key : ShowsKey a.key a.refusal r
  pub minor : a.minor ≡ r.head.minor
  pub body_len : a.body_len ≡ body_len_by r.rule
  pub is_head : a.is_head ≡ is_head r.head.method
  pub is_safe : a.is_safe ≡ is_safe r.head
  pub is_asked_once : a.is_asked_once ≡ is_asked_once r.head
  pub binds_connection : a.binds_connection ≡ binds_connection r.head.fields
  pub keeps_open : a.keeps_open ≡ keeps_open r
  -- where memory was refused, it is not known that the target has no key
  pub expects : ((is_ok r.key ≡ false) × (a.refusal ≡ Some 500)) ⊎ (a.expects_interim ≡ expects_interim r)

abbrev pub ShowsFront : SeatFront → Front → Type 0
ShowsFront NoneYet NoHeadYet = ⊤
ShowsFront (NoneThere status) (NoHead other) = status ≡ other
ShowsFront (Request a) (IsRequest r) = ShowsAsked a r
ShowsFront front other = ⊥

-- bytes of the body that are still to be asked, and those that are dropped as they come; behind a head whose body has no end
-- nothing that comes counts
abbrev pub ShowsBody : Body → ℕ → ℕ → Type 0
ShowsBody (Unread n) left skip = (left ≡ n) × (skip ≡ 0)
ShowsBody (Dropped n) left skip = (left ≡ 0) × (skip ≡ n)
ShowsBody Over left skip = (left ≡ 0) × (skip ≡ 0)

-- the end of its body cannot be told
abbrev pub is_over : Body → Bool
is_over (Unread n) = false
is_over (Dropped n) = false
is_over Over = true

abbrev pub has_no_end : Front → Bool
has_no_end front = is_some_with (λ r. not (is_ok r.rule)) (parsed_in front)

-- a head is taken as soon as it is whole
abbrev pub IsHeadTaken : Bytes → Front → Type 0
IsHeadTaken [] NoHeadYet = ⊤
IsHeadTaken [] (NoHead status) = ⊤
IsHeadTaken [] (IsRequest r) = ⊥
IsHeadTaken (b ∷ head) NoHeadYet = ⊥
IsHeadTaken (b ∷ head) (NoHead status) = ⊥
IsHeadTaken (b ∷ head) (IsRequest r) = request_at (b ∷ head) ≡ Whole r.head

-- it stands there still; of what is no head the status was told when it came, and more of it may be too long
abbrev pub StandsStill : Front → Front → Type 0
StandsStill (NoHead status) now = (other : ℕ) × (now ≡ NoHead other)
StandsStill front now = now ≡ front

-- the current request stands at the front of what was heard, and behind its head what counts
pub record ShowsHeard (h : Heard) (front : Front) (heard : Bytes) : Type 0 where
  pub is_front : StandsStill front (front_of (h.head ++ h.rest))
  pub head : IsHeadTaken h.head front
  pub behind : h.rest ≡ heard
  pub kept : IsKept h.rest h.body
  pub idle : IsIdle h.head h.body
