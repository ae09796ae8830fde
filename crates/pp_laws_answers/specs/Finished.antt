-- Of nobody all is answered (RFC 2616, section 8.1.4): who sends no more, and has sent nothing that is left to answer, is closing.
use Rattle.std.specs.Prelude.{◌≡◌, false, List}
use Rattle.pp_law.specs.Replies.{is_finished}
use Rattle.pp_law.specs.State.{State, Client, Term}
use Rattle.pp_laws.specs.Runs.{IsIn}
use Rattle.pp_obeys.specs.Obeys.{Obeys}
use Rattle.pp_world.specs.Log.{Log}

-- between two turns, and amid one
abbrev pub NobodyIsFinished : Type 0
NobodyIsFinished = (terms : List Term) (s : State) (log : Log) → Obeys terms s log → (c : Client) → IsIn c s.clients → is_finished c ≡ false
