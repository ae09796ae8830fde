-- Whoever waits for an exchange has it: one whose exchange told it nothing, and one to whom more is passed (RFC 2616, sections 6 and
-- 8.1.4). All of it is ours.
use Rattle.std.specs.Prelude.{◌≡◌, true, false, List, Some}
use Rattle.pp_world.specs.Log.{Log}
use Rattle.pp_law.specs.Connections.{is_trying}
use Rattle.pp_law.specs.Phases.{come_to}
use Rattle.pp_law.specs.Stages.{is_passing, passed_of}
use Rattle.pp_law.specs.State.{State, DecidingAgain, Term, Client, Passed, Reply, Answering}
use Rattle.pp_laws.specs.Runs.{IsIn}
use Rattle.pp_laws_served.specs.Served.{HasExchange, MayEnd, is_unanswered}
use Rattle.pp_obeys.specs.Obeys.{Obeys}

-- of whoever goes on, and goes on trying
pub record IsOwnedOn (s : State) : Type 0 where
  pub asked : (c : Client) → IsIn c s.clients → c.is_closing ≡ false → is_unanswered c ≡ true → is_trying c.course ≡ true → HasExchange s c
  pub amid : (c : Client) (p : Passed) → IsIn c s.clients → c.is_closing ≡ false → passed_of c ≡ Some p → p.is_short ≡ false → p.pipe.is_finished ≡ false → is_trying c.course ≡ true → HasExchange s c

-- in each state that a lawful log may go on as from
abbrev pub TurnsAreOwned : Type 0
TurnsAreOwned = (terms : List Term) (s : State) (log : Log) → Obeys terms s log → IsOwnedOn s

-- so it is of everybody where a turn may end, as nobody is closing there: the fields `asked` and `amid` of `IsLeft`
pub record IsOwnedAll (t : State) : Type 0 where
  pub asked : (c : Client) → IsIn c t.clients → is_unanswered c ≡ true → is_trying c.course ≡ true → HasExchange t c
  pub amid : (c : Client) (r : Reply) (p : Passed) → IsIn c t.clients → c.stage ≡ Answering r → is_passing r.decision ≡ true → passed_of c ≡ Some p → p.is_short ≡ false → p.pipe.is_finished ≡ false → is_trying c.course ≡ true → HasExchange t c

abbrev pub EndsAreOwned : Type 0
EndsAreOwned = (terms : List Term) (s : State) (log : Log) → MayEnd terms s log → IsOwnedAll (come_to DecidingAgain s)
