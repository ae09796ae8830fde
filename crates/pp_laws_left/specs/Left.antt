-- What a turn leaves of replies, of what is said and passed, and of places where no head is (RFC 2616, sections 5.1, 6 and 10.4). All of it is ours.
use Rattle.std.specs.Prelude.{◌≡◌, ◌⊎◌, ℕ, ◌≤◌, nat_lt, true, false, List, is_some, Some}
use Rattle.pp_world.specs.Log.{Log}
use Rattle.pp_law.specs.Asking.{has_room}
use Rattle.pp_law.specs.Connections.{is_for}
use Rattle.pp_law.specs.Phases.{come_to}
use Rattle.pp_law.specs.Replies.{begin_replies, is_said}
use Rattle.pp_law.specs.Requests.{NoHead}
use Rattle.pp_law.specs.Stages.{is_begun, is_followed_by, is_passing, is_undecided, passed_of}
use Rattle.pp_law.specs.State.{State, DecidingAgain, Term, Client, Exchange, Reply, Answering}
use Rattle.pp_law.specs.Served.{waits_for_body}
use Rattle.pp_laws.specs.Runs.{IsIn}
use Rattle.pp_laws_ends.specs.Ends.{AreToPass}
use Rattle.pp_laws_served.specs.Served.{IsReply, MayEnd, is_by_row}
use Rattle.pp_obeys.specs.Obeys.{Obeys}

-- a reply that was decided: what `IsReply` of `pp_laws_served` has, but that one that is passed has its response
pub record IsGoing (r : Reply) : Type 0 where
  -- one that is passed has no bytes of a row
  pub even : is_passing r.decision ≡ true → r.at ≡ r.to
  -- none goes on behind its end
  pub within : r.at ≤ r.to
  -- any other has a row as long as bytes of it are to be said, and before it begins
  pub sourced : is_passing r.decision ≡ false → nat_lt r.at r.to ≡ true → is_some r.source ≡ true
  pub decided : is_passing r.decision ≡ false → r.has_begun ≡ false → (is_by_row r.decision ≡ true) × (is_some r.source ≡ true)
  pub followed : r.has_begun ≡ false → nat_lt r.at r.to ≡ true → is_followed_by r.decision ≡ true

pub record IsLeftOn (s : State) : Type 0 where
  pub going : (c : Client) (r : Reply) → IsIn c s.clients → c.stage ≡ Answering r → IsGoing r
  -- so where one that is passed has its response, this is all that `IsLeft` asks of replies
  pub replies : (c : Client) (r : Reply) → IsIn c s.clients → c.stage ≡ Answering r → (is_passing r.decision ≡ true → is_some (passed_of c) ≡ true) → IsReply c r
  -- a place where no head is has a page, once something was decided for it
  pub heads : (c : Client) (status : ℕ) → IsIn c s.clients → c.front ≡ NoHead status → (is_undecided c.stage ≡ true) ⊎ (is_begun c ≡ true)

-- in each state that a lawful log may go on as from
abbrev pub TurnsAreLeft : Type 0
TurnsAreLeft = (terms : List Term) (s : State) (log : Log) → Obeys terms s log → IsLeftOn s

-- and in that in which a turn ends, before replies begin
abbrev pub EndsAreLeft : Type 0
EndsAreLeft = (terms : List Term) (s : State) (log : Log) → Obeys terms s log → IsLeftOn (come_to DecidingAgain s)

-- ---- what is said, and what is passed

-- of whoever goes on: a reply that was said whole is over, and one that is passed has its response
pub record IsSpoken (s : State) : Type 0 where
  pub unsaid : (c : Client) → IsIn c s.clients → c.is_closing ≡ false → is_said c ≡ false
  pub replies : (c : Client) (r : Reply) → IsIn c s.clients → c.is_closing ≡ false → c.stage ≡ Answering r → IsReply c r

abbrev pub TurnsAreSpoken : Type 0
TurnsAreSpoken = (terms : List Term) (s : State) (log : Log) → Obeys terms s log → IsSpoken s

-- so it is of everybody where a turn may end, as nobody is closing there: the fields `unsaid` and `replies` of `IsLeft`
pub record IsSpokenAll (t : State) : Type 0 where
  pub unsaid : (c : Client) → IsIn c t.clients → is_said c ≡ false
  pub replies : (c : Client) (r : Reply) → IsIn c t.clients → c.stage ≡ Answering r → IsReply c r

abbrev pub EndsAreSpoken : Type 0
EndsAreSpoken = (terms : List Term) (s : State) (log : Log) → MayEnd terms s log → IsSpokenAll (come_to DecidingAgain s)

-- ---- what is passed

-- whose pipe has no room may be answered by what is passed: the field `passes`
abbrev pub EndsAreToPass : Type 0
EndsAreToPass = (terms : List Term) (s : State) (log : Log) → MayEnd terms s log → AreToPass (begin_replies (come_to DecidingAgain s))

-- ---- whose body is waited for

-- it is there, did not hang up, and has room for more of it (section 8.2.3)
pub record IsSender (u : State) (e : Exchange) : Type 0 where
  pub sender : Client
  pub there : IsIn sender u.clients
  pub its : is_for e sender ≡ true
  pub stays : sender.has_hung_up ≡ false
  pub room : has_room sender ≡ true

-- the client of each exchange that is somebody's: the field `bodies`, for these
abbrev pub SendersAreThere : Type 0
SendersAreThere = (terms : List Term) (s : State) (log : Log) → MayEnd terms s log → (e : Exchange) (n : ℕ) → IsIn e (begin_replies (come_to DecidingAgain s)).exchanges → e.asker ≡ Some n → waits_for_body (begin_replies (come_to DecidingAgain s)) e ≡ true
    → IsSender (begin_replies (come_to DecidingAgain s)) e
