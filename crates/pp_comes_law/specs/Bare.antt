-- The pipes of responses that are passed, where a head came (RFC 2616, section 6): nothing of a body stands there before its data come.
use Rattle.std.specs.Prelude.{◌≡◌, ℕ, [], Some}
use Rattle.pp_framing.specs.declared.body.BodyRule.{BodyRule}
use Rattle.pp_head.specs.Response.{Response}
use Rattle.pp_law.specs.Responses.{by_aim}
use Rattle.pp_law.specs.Stages.{passed_of}
use Rattle.pp_law.specs.State.{State, Client, Exchange, Passed}
use Rattle.pp_laws.specs.Runs.{IsIn}

-- where a response is passed to it, nothing stands in its pipe
abbrev pub IsBare : Client → Type 0
IsBare c = (p : Passed) → passed_of c ≡ Some p → p.pipe.bytes ≡ []

-- so each client of that number
pub record AreBare (m : ℕ) (s : State) : Type 0 where
  pub bare : (c : Client) → IsIn c s.clients → c.number ≡ m → IsBare c

-- what a head does leaves it so: whoever it is passed to has a pipe that just began
abbrev pub HeadsLeaveThemBare : Type 0
HeadsLeaveThemBare = (m : ℕ) (e : Exchange) (head : Response) (rule : BodyRule) (s : State) → AreBare m s → AreBare m (by_aim e head rule s)
