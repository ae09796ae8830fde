-- No origin has the number of a client that was read at the last wait: no number of a connection comes twice (ours).
--
-- Where the premises come from: it is carried from wait to wait with the law's log. MayRead is what stands before a wait (Reads of
-- `pp_waits_law`), where this is one part of it: so those that are read are clients of the turn behind the wait, whose numbers were given. At the
-- next wait the log has gone on from there, and the turn shows the law's state at its end (Ends.`HasEnded` of `pp_rounds_law`). As a life
-- begins nobody was read.
use Rattle.std.specs.Prelude.{◌≡◌, ◌++◌, ℕ, true, take, List}
use Rattle.pp_desk.specs.declared.desk.Desk.{Desk}
use Rattle.pp_flow_law.specs.Tables.{Leaving}
use Rattle.pp_law.specs.Lists.{has_number}
use Rattle.pp_law.specs.Phases.{ending}
use Rattle.pp_law.specs.State.{State, Term}
use Rattle.pp_obeys.specs.Obeys.{Obeys}
use Rattle.pp_proxy.specs.Awaiting.{Awaits, Rests}
use Rattle.pp_state.specs.Ends.{numbers_of}
use Rattle.pp_turns_law.specs.Turns.{ShowsTurn}
use Rattle.pp_waits_law.specs.Reads.{MayRead}
use Rattle.pp_waits_law.specs.Waits.{OriginsAreApart}
use Rattle.pp_world.specs.Log.{Log}
use Rattle.pp_world.specs.declared.event.Wants.{Wants}

-- ---- behind a wait

-- each is the number of a client
abbrev pub AreClients : List ℕ → Desk → Type 0
AreClients read d = (n : ℕ) → has_number n read ≡ true → has_number n (numbers_of d.state.seats.items) ≡ true

abbrev pub ReadOnesAreClients : Type 0
ReadOnesAreClients = (number : ℕ → ℕ) (before : List ℕ) (w : Wants) (clients : ℕ) (d e f : Desk) (s : State) → MayRead number before d s → Awaits before w clients d e → Rests w clients e f → AreClients (take clients w.read.items) f

-- ---- at the next

-- where a turn ends, however the log has gone on from where they were clients
abbrev pub OriginsStayApart : Type 0
OriginsStayApart = (terms : List Term) (before hs : Log) (number later : ℕ → ℕ) (l m : Leaving) (read : List ℕ) (d f : Desk) (s t : State) → Obeys terms s before → ShowsTurn number l d.peers d.state s → AreClients read d
    → Obeys terms t (before ++ hs) → ShowsTurn later m f.peers f.state (ending t) → OriginsAreApart read f
