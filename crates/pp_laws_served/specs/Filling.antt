-- What followers ask for, once nothing else is to be decided in a turn. All of it is ours.
use Rattle.std.specs.Prelude.{◌≡◌, ◌⊎◌, ℕ, ◌+◌, ◌<◌, ◌≤◌, true, false, List, is_some, Some, None, Ok}
use Rattle.pp_target.specs.Key.{Key, text_of}
use Rattle.pp_world.specs.Log.{Log}
use Rattle.pp_law.specs.After.{dialled, dropped, shut, undialled}
use Rattle.pp_law.specs.Connections.{end_exchange, is_for, is_trying, lose_attempt, placing}
use Rattle.pp_law.specs.Followers.{give_up_asks}
use Rattle.pp_law.specs.Lists.{Bytes, is_some_with}
use Rattle.pp_law.specs.Phases.{come_to, in_phase, may_end, next}
use Rattle.pp_law.specs.Requests.{Parsed, IsRequest}
use Rattle.pp_law.specs.Stages.{filled_of}
use Rattle.pp_law.specs.State.{State, Phase, Connecting, DecidingAgain, Following, Client, Exchange, Term}
use Rattle.pp_law.specs.Table.{Next, brings, is_provided, next_of}
use Rattle.pp_law.specs.Unseen.{drop_unseen}
use Rattle.pp_laws.specs.Runs.{IsIn}
use Rattle.pp_obeys.specs.Obeys.{Obeys}

-- the next byte of each that goes on trying, of a row that stands, is there or comes
abbrev pub IsFilled : State → Type 0
IsFilled s = (c : Client) (n : Next) → IsIn c s.clients → next_of s c ≡ Some n → is_trying c.course ≡ true → n.source.is_retired ≡ false → is_provided s n ≡ true

-- what follows is of the key that the request names
pub record IsKeyed (c : Client) (n : Next) : Type 0 where
  pub request : Parsed
  pub front : c.front ≡ IsRequest request
  pub key : Key
  pub is : request.key ≡ Ok key
  pub same_key : n.source.key ≡ text_of key
  pub some : n.at < n.to
  pub within : n.to ≤ n.source.version.length

-- somebody asked for it whose next byte it brings
pub record IsAsked (s : State) (e : Exchange) : Type 0 where
  pub client : Client
  pub there : IsIn client s.clients
  pub its : is_for e client ≡ true
  pub brings_it : is_some_with (λ n. brings s n.source n.at e) (next_of s client) ≡ true

-- what a client follows ends within the body
abbrev pub AreWithin : State → Type 0
AreWithin s = (c : Client) (n : Next) → IsIn c s.clients → next_of s c ≡ Some n → n.to ≤ n.source.version.length

-- the state in which followers ask: what nobody sees is dropped, and asks that bring nothing any more are given up
abbrev pub unseen_dropped : State → State
unseen_dropped s = give_up_asks (drop_unseen (in_phase Connecting s))

-- and an exchange without a place that fills a hole is asked for by one whose next byte it brings
pub record IsReady (s : State) : Type 0 where
  pub filled : IsFilled s
  pub asked : (e : Exchange) → IsIn e s.exchanges → e.place ≡ None → is_some (filled_of e) ≡ true → IsAsked s e

-- so it is behind that phase, until Stop
abbrev pub FollowersAsk : Type 0
FollowersAsk = (terms : List Term) (s : State) (log : Log) → Obeys terms s log → s.phase ≡ Following → s.is_stopped ≡ false → AreWithin (unseen_dropped s) → IsReady (next s)

-- ---- on the way to the end

-- in a phase behind it
abbrev pub IsLate : Phase → Type 0
IsLate p = (p ≡ Connecting) ⊎ (p ≡ DecidingAgain)

-- so it is where a turn ends, if it is so in the phases behind it
abbrev pub EndsAreReady : Type 0
EndsAreReady = (terms : List Term) (s : State) (log : Log) → Obeys terms s log → s.is_stopped ≡ false → may_end s ≡ true → (IsLate s.phase → IsReady s) → ((u : State) → Obeys terms u log → AreWithin (unseen_dropped u)) → IsReady (come_to DecidingAgain s)

-- what is done in the phase of connections, of a state in it, keeps it so: a place, a dial, and a connection that is dropped
abbrev pub PlacesKeepReady : Type 0
PlacesKeepReady = (s : State) → IsReady s → IsReady (placing s).state × ((n : ℕ) (host : Bytes) (port : ℕ) → IsReady (dialled n host port (placing s))) × ((n : ℕ) → IsReady (dropped n s))

-- and one who is shut, as each who is shut before Stop is closing
abbrev pub ShutsKeepReady : Type 0
ShutsKeepReady = (terms : List Term) (s : State) (log : Log) → Obeys terms s log → (n : ℕ) → ((c : Client) → IsIn c s.clients → c.number ≡ n → c.is_closing ≡ true) → IsReady s → IsReady (shut n s)

-- the outside failed once more
abbrev pub failed : State → State
failed s = record s { failures = s.failures + 1 }

-- and a dial that is refused: whoever waited for what its exchange brings asks anew
abbrev pub RefusalsKeepReady : Type 0
RefusalsKeepReady = (terms : List Term) (s : State) (log : Log) → Obeys terms s log → s.is_stopped ≡ false → ((e : Exchange) → AreWithin (end_exchange e.number (lose_attempt e (failed (placing s).state)))) → IsReady s → IsReady (undialled (placing s))
