-- What is said to each client: one whole reply to each of its requests, in their order, and then a front of one more, and nothing
-- behind a reply that closes (RFC 2616, sections 6, 8.1, 8.1.2.2 and 8.2.3).
use Rattle.std.specs.Prelude.{◌≡◌, ◌⊎◌, ℕ, ◌+◌, ◌-◌, ◌≤◌, Bool, true, false, ◌==◌, ◌&&◌, not, if◌then◌else◌, List, [], ◌∷◌, ◌++◌, length, drop, Option, Some, None}
use Rattle.std.specs.List.{concat}
use Rattle.pp_framing.specs.declared.body.BodyRule.{BodyRule}
use Rattle.pp_head.specs.Response.{Response}
use Rattle.pp_plan.specs.Requests.{is_head}
use Rattle.pp_reply.specs.Keeping.{interim, is_end_known}
use Rattle.pp_reply.specs.Kept.{kept_reply}
use Rattle.pp_reply.specs.Texts.{page, passed_head}
use Rattle.pp_reply.specs.declared.kept.KeptReply.{KeptReply}
use Rattle.pp_reply.specs.declared.kept.KeptReply.TheVariants.{Whole as AllOf, Part as SomeOf, Head as HeadOf, NotModified as SameAs, Unsatisfiable as NoneOf}
use Rattle.pp_text.specs.Fields.{Field}
use Rattle.pp_world.specs.Log.{Log}
use Rattle.pp_world.specs.Streams.{heard, said}
use Rattle.pp_world.specs.declared.happening.Happening.{Happening}
use Rattle.pp_world.specs.declared.happening.Happening.TheVariants.{Noted}
use Rattle.pp_world.specs.declared.note.Decision.{Decision}
use Rattle.pp_world.specs.declared.note.Decision.TheVariants.{Refuse, Hit, Part, Head, NotModified, Unsatisfiable, Relay, Validate, Fetch, Pass}
use Rattle.pp_world.specs.declared.note.Remark.TheVariants.{Taken}
use Rattle.pp_law.specs.Lawful.{Lawful}
use Rattle.pp_law.specs.Lists.{Bytes}
use Rattle.pp_law.specs.Requests.{Front, Parsed, NoHeadYet, NoHead, IsRequest, front_of, body_len, keeps_open, keeps_after, asks_head, expects_interim}
use Rattle.pp_law.specs.Stages.{is_passing}
use Rattle.pp_law.specs.State.{Term}
use Rattle.pp_laws_replies.specs.ByRow.{is_by_row}

-- ---- what was decided

-- for request i of client n, by what was noted last
abbrev pub taken_in : ℕ → ℕ → Happening → Option Decision → Option Decision
taken_in n i (Noted (Taken m j d)) before = if (m == n) && (j == i) then Some d else before
taken_in n i happening before = before

abbrev pub taken_from : ℕ → ℕ → Option Decision → Log → Option Decision
taken_from n i before [] = before
taken_from n i before (happening ∷ log) = taken_from n i (taken_in n i happening before) log

abbrev pub taken : ℕ → Log → ℕ → Option Decision
taken n log i = taken_from n i None log

-- ---- one reply

-- the interim answer comes before the reply to a request that waits for it
abbrev pub interim_to : Front → Bytes
interim_to NoHeadYet = []
interim_to (NoHead status) = []
interim_to (IsRequest r) = elim (expects_interim r) [ true ↦ interim | false ↦ [] ]

-- how many bytes of a version of that length stand behind the head
abbrev pub shown_len : KeptReply → ℕ → ℕ
shown_len AllOf n = n
shown_len (SomeOf from to) n = to - from
shown_len HeadOf n = 0
shown_len SameAs n = 0
shown_len NoneOf n = 0

-- this span of a body of so many bytes: all of it as the whole, or else as that part
abbrev pub IsOfSpan : ℕ → ℕ → ℕ → KeptReply → Type 0
IsOfSpan from to n kind = ((kind ≡ AllOf) × (from ≡ 0) × (to ≡ n)) ⊎ (kind ≡ SomeOf from to)

-- what is decided is what is shown
abbrev pub IsKindOf : Decision → ℕ → KeptReply → Type 0
IsKindOf (Refuse status) n kind = ⊥
IsKindOf (Hit from to) n kind = IsOfSpan from to n kind
IsKindOf (Part from to) n kind = IsOfSpan from to n kind
IsKindOf Head n kind = kind ≡ HeadOf
IsKindOf NotModified n kind = kind ≡ SameAs
IsKindOf Unsatisfiable n kind = kind ≡ NoneOf
IsKindOf Relay n kind = ⊥
IsKindOf Validate n kind = ⊥
IsKindOf Fetch n kind = ⊥
IsKindOf Pass n kind = ⊥

-- the head of a reply that is made from a kept response, as it was decided, and how many bytes of its body it shows
pub record IsKeptHead (r : Parsed) (d : Decision) (head : Bytes) : Type 0 where
  pub kind : KeptReply
  pub total : ℕ
  pub is_decided : IsKindOf d total kind
  pub fields : List Field
  pub age : Option ℕ
  pub name : Bytes
  pub spelled : head ≡ kept_reply kind total fields age name (keeps_open r)

-- the head of a response that is passed
pub record IsPassedHead (r : Parsed) (head : Bytes) : Type 0 where
  pub response : Response
  pub rule : BodyRule
  pub name : Bytes
  pub spelled : head ≡ passed_head response rule r.head.minor (is_head r.head.method) name (keeps_open r)

-- head and body of a reply to a request, of which this was decided: a page; a reply from a kept response, of which the body has just
-- the bytes that the head shows where it is whole, and no more in any case; or a response that is passed. And whether it closes: the
-- connection ends behind it, as its head says, where the request or the page wants it so, or where nothing but this tells the end of
-- the body (sections 4.4 and 8.1)
pub data IsReply (f : Front) (d : Decision) (is_whole closes : Bool) (head body : Bytes) : Type 0 where
  is_page : (status : ℕ) → d ≡ Refuse status → head ≡ page status (asks_head f) (keeps_after status f) → body ≡ [] → closes ≡ not (keeps_after status f) → IsReply f d is_whole closes head body
  is_kept : (r : Parsed) → f ≡ IsRequest r → is_by_row d ≡ true → (k : IsKeptHead r d head) → length body ≤ shown_len k.kind k.total → (is_whole ≡ true → length body ≡ shown_len k.kind k.total) → closes ≡ not (keeps_open r) → IsReply f d is_whole closes head body
  is_passed : (r : Parsed) → f ≡ IsRequest r → is_passing d ≡ true → (p : IsPassedHead r head) → closes ≡ not (keeps_open r && is_end_known p.rule r.head.minor) → IsReply f d is_whole closes head body

-- all of a reply, behind which the connection goes on, as it was decided last
pub record IsWholeReply (f : Front) (decided : Option Decision) (text : Bytes) : Type 0 where
  pub decision : Decision
  pub by : decided ≡ Some decision
  pub head : Bytes
  pub body : Bytes
  pub spelled : text ≡ (interim_to f ++ head) ++ body
  pub is : IsReply f decision true false head body

-- a front of a reply, which may close: of what stands before its head; or of its head; or all of its head and a front of its body
pub data IsFrontOfReply (f : Front) (decided : Option Decision) (text : Bytes) : Type 0 where
  before : (left : Bytes) → text ++ left ≡ interim_to f → IsFrontOfReply f decided text
  within : (d : Decision) → decided ≡ Some d → (closes : Bool) (head body left : Bytes) → text ++ left ≡ (interim_to f ++ head) ++ body → (body ≡ []) ⊎ (left ≡ []) → IsReply f d false closes head body → IsFrontOfReply f decided text

-- ---- the requests that are answered

-- what stands at the front of some bytes is this request, or is none, as this place is
abbrev pub IsFrontAt : Front → Front → Type 0
IsFrontAt NoHeadYet found = ⊥
IsFrontAt (NoHead status) found = (other : ℕ) × (found ≡ NoHead other)
IsFrontAt (IsRequest r) found = found ≡ IsRequest r

abbrev pub head_len : Front → ℕ
head_len NoHeadYet = 0
head_len (NoHead status) = 0
head_len (IsRequest r) = r.head.length

-- behind its head and its body the next one begins (section 4.4)
abbrev pub next_at : ℕ → Front → ℕ
next_at at f = (at + head_len f) + body_len f

-- each stands in what was heard, the first at this offset, and each other one where the one before it ends
abbrev pub AreHeardFrom : Bytes → ℕ → List Front → Type 0
AreHeardFrom heard at [] = Unit {0}
AreHeardFrom heard at (f ∷ fs) = IsFrontAt f (front_of (drop at heard)) × AreHeardFrom heard (next_at at f) fs

-- these are the first requests that were heard: none is passed over
abbrev pub AreHeard : Bytes → List Front → Type 0
AreHeard heard fs = AreHeardFrom heard 0 fs

-- ---- all that is said

-- one for each, in their order, from request i on, and none of them closes
abbrev pub AreRepliesFrom : (ℕ → Option Decision) → ℕ → List Front → List Bytes → Type 0
AreRepliesFrom decided i [] [] = Unit {0}
AreRepliesFrom decided i [] (text ∷ texts) = ⊥
AreRepliesFrom decided i (f ∷ fs) [] = ⊥
AreRepliesFrom decided i (f ∷ fs) (text ∷ texts) = IsWholeReply f (decided i) text × AreRepliesFrom decided (i + 1) fs texts

abbrev pub AreReplies : (ℕ → Option Decision) → List Front → List Bytes → Type 0
AreReplies decided fs texts = AreRepliesFrom decided 0 fs texts

-- to each of the first requests a whole reply that does not close; to the next one a front of a reply, or nothing yet; and nothing
-- else. So a reply that closes is the last. And each is of the decision that was taken last for its request
pub record SaysInOrder (heard told : Bytes) (decided : ℕ → Option Decision) : Type 0 where
  pub requests : List Front
  pub are_heard : AreHeard heard requests
  pub replies : List Bytes
  pub each : AreReplies decided requests replies
  pub next : Front
  pub last : Bytes
  pub front : IsFrontOfReply next (decided (length requests)) last
  pub next_heard : (last ≡ []) ⊎ AreHeard heard (requests ++ next ∷ [])
  pub all : told ≡ concat replies ++ last

-- of each client of a lawful log
abbrev pub RepliesInOrder : Type 0
RepliesInOrder = (terms : List Term) (log : Log) (n : ℕ) → Lawful terms log → SaysInOrder (heard n log) (said n log) (taken n log)
