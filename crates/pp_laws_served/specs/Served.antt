-- Who is served where a turn may end, and by which wants. All of it is ours.
use Rattle.std.specs.Prelude.{◌≡◌, ◌⊎◌, ℕ, ◌≤◌, nat_lt, Bool, true, false, not, List, is_some, Some, None}
use Rattle.pp_world.specs.Log.{Log}
use Rattle.pp_world.specs.declared.event.Wants.{Wants}
use Rattle.pp_world.specs.declared.note.Decision.{Decision}
use Rattle.pp_world.specs.declared.note.Decision.TheVariants.{Hit, Part, Head, NotModified, Unsatisfiable}
use Rattle.pp_law.specs.Asking.{has_room}
use Rattle.pp_law.specs.Connections.{front_of_line, is_for, is_outstanding, is_trying}
use Rattle.pp_law.specs.Due.{is_told}
use Rattle.pp_law.specs.Offers.{has_to_say}
use Rattle.pp_law.specs.Permits.{permits_waits}
use Rattle.pp_law.specs.Phases.{come_to, ending, may_end}
use Rattle.pp_law.specs.Replies.{begin_replies, is_said}
use Rattle.pp_law.specs.Requests.{NoHead, has_request}
use Rattle.pp_law.specs.Served.{accepts, has_to_ask, is_served, waits_for_body, wants_no_more, wants_read, wants_write}
use Rattle.pp_law.specs.Stages.{is_begun, is_followed_by, is_passing, is_undecided, passed_of}
use Rattle.pp_law.specs.State.{State, DecidingAgain, Term, Client, Conn, Exchange, Passed, Reply, Undecided, Waiting, Passing, Answering}
use Rattle.pp_law.specs.Table.{Next, is_provided, next_of}
use Rattle.pp_laws.specs.Runs.{IsIn}
use Rattle.pp_laws_ends.specs.Ends.{AreToPass, HasNotEnded, IsClientServed, reads_client, reads_conn, wants_of}
use Rattle.pp_obeys.specs.Obeys.{Obeys}

-- where a turn may end that its last happening left before its end, and Stop was not said
pub record MayEnd (terms : List Term) (s : State) (log : Log) : Type 0 where
  pub obeys : Obeys terms s log
  pub early : HasNotEnded terms log
  pub may : may_end s ≡ true
  pub runs : s.is_stopped ≡ false

-- ---- who has no request

-- may send one, and is read
abbrev pub WhoMayAskIsServed : Type 0
WhoMayAskIsServed = (terms : List Term) (s : State) (log : Log) → MayEnd terms s log → (c : Client) → IsIn c (ending s).clients → has_request c.front ≡ false → IsClientServed (ending s) c

-- ---- which wants

-- the response that comes next is waited for, or the end of the connection
abbrev pub is_awaited : State → Conn → Bool
is_awaited s k = elim (front_of_line s k) [ None ↦ true | Some e ↦ is_outstanding e ]

-- who has something to say is written to, and no other; whoever the law reads is read, and nobody but who may send; a connection is
-- read where it is waited for, unless the response that comes stops
pub record IsAsGood (s : State) (w : Wants) : Type 0 where
  pub accept : w.accept ≡ accepts s
  pub says : (c : Client) → IsIn c s.clients → wants_write w c.number ≡ has_to_say s c
  pub reads : (c : Client) → IsIn c s.clients → reads_client s c ≡ true → wants_read w c.number ≡ true
  pub asks : (k : Conn) → IsIn k s.conns → k.is_reached ≡ true → wants_write w k.number ≡ has_to_ask s k
  pub gets : (k : Conn) → IsIn k s.conns → k.is_reached ≡ true → is_awaited s k ≡ true → wants_read w k.number ≡ reads_conn s k
  pub no_more : wants_no_more s w ≡ true

-- where the wants of the law serve everybody at the end of a turn, so do these
abbrev pub AsGoodOnesServe : Type 0
AsGoodOnesServe = (terms : List Term) (s : State) (log : Log) → Obeys terms s log → (w : Wants) → IsAsGood (ending s) w → is_served (ending s) (wants_of (ending s)) ≡ true → is_served (ending s) w ≡ true

-- ---- what is left

abbrev pub is_by_row : Decision → Bool
is_by_row (Hit from to) = true
is_by_row (Part from to) = true
is_by_row Head = true
is_by_row NotModified = true
is_by_row Unsatisfiable = true
is_by_row d = false

abbrev pub HasExchange : State → Client → Type 0
HasExchange t c = (e : Exchange) × IsIn e t.exchanges × (is_for e c ≡ true)

-- its request waits for its exchange, which told it nothing
abbrev pub is_unanswered : Client → Bool
is_unanswered c = elim c.stage [ Undecided ↦ false | Waiting ↦ not (is_told c.brought) | Passing ↦ not (is_some (passed_of c)) | Answering r ↦ false ]

-- what a reply that was decided has
pub record IsReply (c : Client) (r : Reply) : Type 0 where
  -- one that is passed has its response, and no bytes of a row
  pub passed : is_passing r.decision ≡ true → (is_some (passed_of c) ≡ true) × (r.at ≡ r.to)
  pub within : r.at ≤ r.to
  -- any other has a row as long as bytes of it are to be said, and before it begins
  pub sourced : is_passing r.decision ≡ false → nat_lt r.at r.to ≡ true → is_some r.source ≡ true
  pub decided : is_passing r.decision ≡ false → r.has_begun ≡ false → (is_by_row r.decision ≡ true) × (is_some r.source ≡ true)
  pub followed : r.has_begun ≡ false → nat_lt r.at r.to ≡ true → is_followed_by r.decision ≡ true

-- of the state in which a turn ends, before replies begin: `pp_laws_left` has these, and says what it takes of them. None speaks of what is due
pub record IsLeft (t : State) : Type 0 where
  -- what a client follows that goes on trying, of a row that stands, is there or comes: `ends_are_ready` has it (`IsReady`)
  pub filled : (c : Client) (n : Next) → IsIn c t.clients → next_of t c ≡ Some n → is_trying c.course ≡ true → n.source.is_retired ≡ false → is_provided t n ≡ true
  -- whose exchange told it nothing has it, as long as it goes on trying
  pub asked : (c : Client) → IsIn c t.clients → is_unanswered c ≡ true → is_trying c.course ≡ true → HasExchange t c
  -- so has one to whom more is passed
  pub amid : (c : Client) (r : Reply) (p : Passed) → IsIn c t.clients → c.stage ≡ Answering r → is_passing r.decision ≡ true → passed_of c ≡ Some p → p.is_short ≡ false → p.pipe.is_finished ≡ false → is_trying c.course ≡ true → HasExchange t c
  pub replies : (c : Client) (r : Reply) → IsIn c t.clients → c.stage ≡ Answering r → IsReply c r
  -- a reply that was said whole is over
  pub unsaid : (c : Client) → IsIn c t.clients → is_said c ≡ false
  -- a place where no head is has a page
  pub heads : (c : Client) (status : ℕ) → IsIn c t.clients → c.front ≡ NoHead status → (is_undecided c.stage ≡ true) ⊎ (is_begun c ≡ true)
  -- whose pipe has no room may be answered by what is passed
  pub passes : AreToPass (begin_replies t)
  -- one that waits for the body of its request has its client, who may send it
  pub bodies : (e : Exchange) → IsIn e (begin_replies t).exchanges → is_some e.place ≡ true → waits_for_body (begin_replies t) e ≡ true
      → (c : Client) × IsIn c (begin_replies t).clients × (is_for e c ≡ true) × (c.has_hung_up ≡ false) × (has_room c ≡ true)

-- ---- who was decided for

-- who has something to say; who follows, and whose next byte is there or comes; and who follows nothing, and has its exchange
pub data IsProvidedFor (s : State) (c : Client) : Type 0 where
  says : has_to_say s c ≡ true → IsProvidedFor s c
  follows : (n : Next) → next_of s c ≡ Some n → is_provided s n ≡ true → IsProvidedFor s c
  owns : next_of s c ≡ None → (e : Exchange) → IsIn e s.exchanges → is_for e c ≡ true → IsProvidedFor s c

-- where a turn may end, each whose request was decided is one of these, so nothing that is due leaves anybody to wait on nothing
abbrev pub DecidedAreProvidedFor : Type 0
DecidedAreProvidedFor = (terms : List Term) (s : State) (log : Log) → MayEnd terms s log → IsLeft (come_to DecidingAgain s)
    → (c : Client) → IsIn c (ending s).clients → has_request c.front ≡ true → is_undecided c.stage ≡ false → IsProvidedFor (ending s) c

-- then a turn that may end can, with each of these wants
abbrev pub TurnsEnd : Type 0
TurnsEnd = (terms : List Term) (s : State) (log : Log) → MayEnd terms s log → IsLeft (come_to DecidingAgain s) → (w : Wants) → IsAsGood (ending s) w → permits_waits s w ≡ true
