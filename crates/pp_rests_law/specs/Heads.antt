-- What is no head is refused with a status that there is a page of (RFC 2616, section 10.4; RFC 6585, section 5).
use Rattle.std.specs.Prelude.{◌≡◌, ℕ, true, List}
use Rattle.pp_law.specs.Requests.{NoHead}
use Rattle.pp_law.specs.State.{State, Term, Client}
use Rattle.pp_laws.specs.Runs.{IsIn}
use Rattle.pp_obeys.specs.Obeys.{Obeys}
use Rattle.pp_reply.specs.Texts.{has_page}
use Rattle.pp_world.specs.Log.{Log}

abbrev pub HasPages : State → Type 0
HasPages s = (c : Client) (status : ℕ) → IsIn c s.clients → c.front ≡ NoHead status → has_page status ≡ true

-- it was read so, with 400 or 431, in each state that a lawful log may go on as from
abbrev pub HeadsHavePages : Type 0
HeadsHavePages = (terms : List Term) (s : State) (log : Log) → Obeys terms s log → HasPages s
