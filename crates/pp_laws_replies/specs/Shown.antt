-- What a reply that is read from the cache shows: the head of one version, and bytes of that version, each at its place (RFC 2616,
-- sections 4.4, 13.5.4 and 14.16; RFC 7233, section 4.1).
use Rattle.std.specs.Prelude.{◌≡◌, ◌⊎◌, ℕ, ◌+◌, ◌-◌, ◌≤◌, true, List, [], ◌∷◌, ◌++◌, length, Option, Some}
use Rattle.std.specs.List.{concat}
use Rattle.pp_reply.specs.Kept.{kept_reply}
use Rattle.pp_reply.specs.declared.kept.KeptReply.{KeptReply}
use Rattle.pp_reply.specs.declared.kept.KeptReply.TheVariants.{Whole as AllOf, Part as SomeOf, Head as HeadOf, NotModified as SameAs, Unsatisfiable as NoneOf}
use Rattle.pp_text.specs.Fields.{Field}
use Rattle.pp_valid.specs.declared.version.Version.{Version}
use Rattle.pp_world.specs.Log.{Log}
use Rattle.pp_world.specs.Streams.{heard, said}
use Rattle.pp_world.specs.declared.note.Decision.{Decision}
use Rattle.pp_law.specs.Lawful.{Lawful}
use Rattle.pp_law.specs.Lists.{Bytes}
use Rattle.pp_law.specs.Requests.{Front, Parsed, IsRequest, keeps_open}
use Rattle.pp_law.specs.State.{Term, Client, Instance, Reply, Answering}
use Rattle.pp_laws.specs.Runs.{IsIn, state_after}
use Rattle.pp_laws_replies.specs.ByRow.{is_by_row}
use Rattle.pp_laws_replies.specs.Replies.{interim_to, shown_len, taken, AreHeard, AreReplies, IsKindOf}

-- ---- what is shown of a version

-- the half-open span of a body of so many bytes that stands behind the head
abbrev pub span_shown : KeptReply → ℕ → ℕ × ℕ
span_shown AllOf n = (0, n)
span_shown (SomeOf from to) n = (from, to)
span_shown HeadOf n = (0, 0)
span_shown SameAs n = (0, 0)
span_shown NoneOf n = (0, 0)

-- ---- one reply

-- of this head, and of this front of its body: the head is that of one version, with its length, for what was decided; the front
-- stands at its place in the body of that version, so that the next byte is the one behind it; the reply ends where its head says,
-- within that body; and what it is read from is of that version
pub record ShowsVersion (instances : List Instance) (request : Parsed) (r : Reply) (head body : Bytes) : Type 0 where
  pub version : Version
  pub kind : KeptReply
  pub is_decided : IsKindOf r.decision version.length kind
  pub fields : List Field
  pub age : Option ℕ
  pub name : Bytes
  pub spelled : head ≡ kept_reply kind version.length fields age name (keeps_open request)
  pub place : (span_shown kind version.length).0 + length body ≡ r.at
  pub order : r.at ≤ r.to
  pub end : r.to ≡ (span_shown kind version.length).1
  pub within : r.to ≤ version.length
  pub still_to_say : length body + (r.to - r.at) ≡ shown_len kind version.length
  pub source : (x : Instance) → IsIn x instances → r.source ≡ Some x.id → x.version ≡ version

-- a client that is in the midst of such a reply was said one whole reply to each request before this one, and then a front of it:
-- with what is left of the interim answer and of the head, it is both of them and a front of the body, which begins behind them
pub record IsShown (instances : List Instance) (heard told : Bytes) (decided : ℕ → Option Decision) (c : Client) (r : Reply) : Type 0 where
  pub request : Parsed
  pub asks : c.front ≡ IsRequest request
  pub requests : List Front
  pub are_heard : AreHeard heard (requests ++ c.front ∷ [])
  pub replies : List Bytes
  pub each : AreReplies decided requests replies
  pub was_decided : decided (length requests) ≡ Some r.decision
  pub head : Bytes
  pub body : Bytes
  pub all : told ++ (c.interim_left ++ r.head_left) ≡ concat replies ++ ((interim_to c.front ++ head) ++ body)
  pub begins : (body ≡ []) ⊎ ((c.interim_left ≡ []) × (r.head_left ≡ []))
  pub shows : ShowsVersion instances request r head body

-- behind each lawful log
abbrev pub RepliesShowTheirVersion : Type 0
RepliesShowTheirVersion = (terms : List Term) (log : Log) (c : Client) (r : Reply) → Lawful terms log → IsIn c (state_after terms log).clients
    → c.stage ≡ Answering r → r.has_begun ≡ true → is_by_row r.decision ≡ true
    → IsShown (state_after terms log).instances (heard c.number log) (said c.number log) (taken c.number log) c r
