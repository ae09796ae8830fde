-- What is known of a reply that is made from the table (RFC 2616, sections 10.2.7, 10.4.17 and 14.35; RFC 7233, sections 2.1 and 4).
use Rattle.std.specs.Prelude.{◌≡◌, ℕ, ◌<◌, ◌≤◌, true, false, List, None, Some}
use Rattle.pp_plan.specs.Spans.{resolved}
use Rattle.pp_world.specs.Log.{Log}
use Rattle.pp_law.specs.Deciding.{span_of}
use Rattle.pp_law.specs.Replies.{is_part}
use Rattle.pp_law.specs.Requests.{Parsed, IsRequest}
use Rattle.pp_law.specs.Stages.{is_followed_by, is_passing}
use Rattle.pp_law.specs.State.{State, Term, Answering, Client, Instance, Reply}
use Rattle.pp_law.specs.Table.{Next, instance, next_of, source_of}
use Rattle.pp_laws.specs.Runs.{IsIn}
use Rattle.pp_laws_replies.specs.ByRow.{is_by_row}
use Rattle.pp_obeys.specs.Obeys.{Obeys}

-- ---- a reply that was decided, and has not begun

-- of the version that it is read from: the span ends with the body at the latest; and that of a part is not empty
pub record IsSpanOf (r : Reply) (q : Parsed) (x : Instance) : Type 0 where
  pub within : r.to ≤ x.version.length
  pub part : is_followed_by r.decision ≡ true → is_part (resolved q.head.fields x.version) ≡ true → r.at < r.to

-- it is read from an instance, in the span of its decision
pub record IsReadFrom (s : State) (c : Client) (r : Reply) : Type 0 where
  pub request : Parsed
  pub front : c.front ≡ IsRequest request
  pub by_row : is_by_row r.decision ≡ true
  pub at : r.at ≡ (span_of r.decision).0
  pub to : r.to ≡ (span_of r.decision).1
  pub order : r.at ≤ r.to
  pub source : ℕ
  pub is : r.source ≡ Some source
  pub span : (x : Instance) → instance s source ≡ Some x → IsSpanOf r request x

-- or it is passed, follows nothing, and shows no bytes of a row
pub record IsChosen (s : State) (c : Client) (r : Reply) : Type 0 where
  pub passes : is_passing r.decision ≡ true → r.source ≡ None
  pub span : is_passing r.decision ≡ true → (r.at ≡ (span_of r.decision).0) × (r.to ≡ (span_of r.decision).1)
  pub shows : is_passing r.decision ≡ false → IsReadFrom s c r

-- ---- all

pub record IsDecidedTurn (s : State) : Type 0 where
  pub chosen : (c : Client) (r : Reply) → IsIn c s.clients → c.stage ≡ Answering r → r.has_begun ≡ false → IsChosen s c r
  -- none goes on behind the end of the body that it is read from
  pub within : (c : Client) (r : Reply) (x : Instance) → IsIn c s.clients → c.stage ≡ Answering r → source_of s r ≡ Some x → r.to ≤ x.version.length
  -- so the next byte of a follower is one of the body
  pub next : (c : Client) (n : Next) → IsIn c s.clients → next_of s c ≡ Some n → (n.at < n.to) × (n.to ≤ n.source.version.length)

-- in each state that a lawful log may go on as from
abbrev pub TurnsAreDecided : Type 0
TurnsAreDecided = (terms : List Term) (s : State) (log : Log) → Obeys terms s log → IsDecidedTurn s
