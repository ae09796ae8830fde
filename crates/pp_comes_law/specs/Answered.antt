-- Who is answered, and is not to be closed behind that, can go on to the next request (RFC 2616, section 8.1): its request has a known end, and
-- keeps the connection open, and requests can be counted still.
use Rattle.std.specs.Prelude.{◌≡◌, true, false, List}
use Rattle.pp_law.specs.Requests.{Parsed, IsRequest, keeps_open}
use Rattle.pp_law.specs.Stages.{is_begun}
use Rattle.pp_law.specs.State.{State, Client, Term}
use Rattle.pp_laws.specs.Runs.{IsIn}
use Rattle.pp_laws_sides.specs.Counts.{IsShortLog}
use Rattle.pp_obeys.specs.Obeys.{Obeys}
use Rattle.pp_reads_law.specs.Goes.{AllGoOn}
use Rattle.pp_world.specs.Log.{Log}

-- its request wants it so
pub record IsKeptOpen (c : Client) : Type 0 where
  pub request : Parsed
  pub front : c.front ≡ IsRequest request
  pub keeps : keeps_open request ≡ true

abbrev pub AnsweredOnesAreKeptOpen : Type 0
AnsweredOnesAreKeptOpen = (terms : List Term) (s : State) (log : Log) → Obeys terms s log → (c : Client) → IsIn c s.clients → is_begun c ≡ true → c.closes ≡ false → IsKeptOpen c

-- in each state that a log may go on as from that is not too long
abbrev pub AnsweredOnesGoOn : Type 0
AnsweredOnesGoOn = (terms : List Term) (s : State) (log : Log) → Obeys terms s log → IsShortLog log → AllGoOn s
