-- Closings may come in each state that a lawful log may go on as from, where memory was refused for no row that somebody who goes on waits for (RFC 2616, section 8.1).
use Rattle.std.specs.Prelude.{◌≡◌, false, List}
use Rattle.pp_turns_law.specs.Sides.{MayClose}
use Rattle.pp_law.specs.State.{State, Client, Term}
use Rattle.pp_laws.specs.Runs.{IsIn}
use Rattle.pp_obeys.specs.Obeys.{Obeys}
use Rattle.pp_seats_law.specs.Fates.{is_refused}
use Rattle.pp_world.specs.Log.{Log}

-- of nobody who goes on: in the program a life in which memory was goes astray
abbrev pub NoneIsRefused : State → Type 0
NoneIsRefused s = (c : Client) → IsIn c s.clients → c.is_closing ≡ false → is_refused c.course ≡ false

-- no two connections have one number, one that is closing has no line, clients of exchanges go on (`pp_laws_turn`), and more of what is passed
-- is to come (`pp_laws_coming`)
abbrev pub ClosingsMayCome : Type 0
ClosingsMayCome = (terms : List Term) (s : State) (log : Log) → Obeys terms s log → NoneIsRefused s → MayClose s
