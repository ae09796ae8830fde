-- At Stop all connections are closed, clients and then origins, in the order of their numbers; and then the log may end (RFC 2616, section
-- 8.1; the order is ours).
use Rattle.std.specs.Prelude.{◌≡◌, ℕ, true, false, List, [], ◌++◌, None, length}
use Rattle.std.specs.List.{list_any}
use Rattle.pp_turns_law.specs.Log.{AreLinked}
use Rattle.pp_desk.specs.Closings.{peer_numbers}
use Rattle.pp_flow_law.specs.Tables.{none_leaves}
use Rattle.pp_law.specs.Closing.{is_over}
use Rattle.pp_law.specs.Due.{first_due}
use Rattle.pp_law.specs.Permits.{is_over as may_be_over}
use Rattle.pp_law.specs.State.{State, Term, Deciding}
use Rattle.pp_obeys.specs.Moves.{Leads, Leaves}
use Rattle.pp_obeys.specs.Obeys.{Obeys}
use Rattle.pp_places_law.specs.Closings.{AreOpen}
use Rattle.pp_proxy.specs.Closing.{ClosesOver}
use Rattle.pp_proxy.specs.Moving.{Moving}
use Rattle.pp_state.specs.Ends.{numbers_of}
use Rattle.pp_state.specs.Numbers.{places}
use Rattle.pp_turns_law.specs.Turns.{ShowsTurn}
use Rattle.pp_world.specs.Log.{Log}

-- where a turn closes all, behind its decisions
pub record MayStop (x : Moving) (s : State) : Type 0 where
  -- nothing is due, and no row left memory for a decision (Stands.`NoneIsNext` of `pp_deciding_law`)
  pub at : s.phase ≡ Deciding
  pub none : s.made_room_for ≡ None
  pub done : first_due s ≡ None
  -- Stop was said, for which all clients are looked at (Handling.`Stops` of `pp_proxy`); decisions leave both
  pub stopped : x.desk.state.is_stopped ≡ true
  pub awake : x.desk.state.awake.items ≡ places (length x.desk.state.seats.items)
  -- each client and each connection that is there is open, from one opening, dial and closing to the next
  pub clients : AreOpen (numbers_of x.desk.state.seats.items) x.links
  pub origins : AreLinked (peer_numbers x.desk.peers) x.links
  -- no exchange is nobody's and nowhere: so behind Evicting, where those are given up (Takes.`RestsOn` of `pp_deciding_law`)
  pub going : list_any is_over s.exchanges ≡ false

-- two phases are left without a happening; the closings may come then, one behind the other, and lead to a state in which nobody is there,
-- and all is done
pub record AllAreShut (terms : List Term) (before log : Log) (s : State) : Type 0 where
  pub then : State
  pub leads : Leaves (Leaves (λ t. Leads log t then)) s
  pub obeys : Obeys terms then (before ++ log)
  pub clients : then.clients ≡ []
  pub conns : then.conns ≡ []
  pub over : may_be_over then ≡ true

-- nor is anybody in the program
pub record NobodyIsLeft (y : Moving) : Type 0 where
  pub seats : y.desk.state.seats.items ≡ []
  pub peers : y.desk.peers ≡ []

-- the turn shows the law's state, beside a log that obeys the law
abbrev pub StopsAreTheLaws : Type 0
StopsAreTheLaws = (terms : List Term) (number : ℕ → ℕ) (before log : Log) (x y : Moving) (s : State) → Obeys terms s before → ShowsTurn number none_leaves x.desk.peers x.desk.state s → MayStop x s → ClosesOver x log y
    → AllAreShut terms before log s × NobodyIsLeft y
