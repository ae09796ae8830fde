-- All that is decided in one go, one behind the other, leads where the law leads (RFC 2616, section 8.1; the order is ours).
use Rattle.std.specs.Prelude.{◌≡◌, ℕ, Bool, true, false, List, ◌++◌, None}
use Rattle.pp_turns_law.specs.Sides.{MayClose}
use Rattle.pp_deciding_law.specs.Cuts.{IsCutNext, behind_cut}
use Rattle.pp_deciding_law.specs.Stands.{StandsBehind}
use Rattle.pp_deciding_law.specs.Takes.{IsNext, RestsOn, behind_taken}
use Rattle.pp_law.specs.State.{State, Client, Term}
use Rattle.pp_obeys.specs.Moves.{Leads}
use Rattle.pp_obeys.specs.Obeys.{Obeys}
use Rattle.pp_peers.specs.declared.peers.Peer.{Peer}
use Rattle.pp_proxy.specs.Deciding.{Decides, TakesOne}
use Rattle.pp_proxy.specs.Moving.{Moving}
use Rattle.pp_rounds_law.specs.Coming.{IsBrief}
use Rattle.pp_seats.specs.declared.due.Due.TheVariants.{Decide, CutOff}
use Rattle.pp_seats.specs.declared.seat.Seat.{Seat}
use Rattle.pp_state.specs.declared.state.State.{State as Turn}
use Rattle.pp_store.specs.Kept.{KeptMap}
use Rattle.pp_turns_law.specs.Firsts.{FirstDueInMemory}
use Rattle.pp_world.specs.Log.{Log}
use Rattle.pp_world.specs.declared.note.Cause.{Cause}
use Rattle.pp_world.specs.declared.note.Decision.{Decision}

-- ---- what each decision rests on beside what stands: whatever holds from one to the next, and supplies it

-- between two decisions: beside a log that obeys the law, of so many happenings at most, the turn stands as it does amid them
pub record IsMoment (terms : List Term) (most : ℕ) (before : Log) (peers : List Peer) (shelf : KeptMap) (p : Turn) (s : State) : Type 0 where
  pub obeys : Obeys terms s before
  pub brief : IsBrief most before
  pub stands : StandsBehind peers shelf p s

-- at each moment, where this life does not go astray by what comes of it
pub record Supplies (terms : List Term) (most : ℕ) (shelf : KeptMap) (I : Turn → State → Type 0) : Type 0 where
  -- as RestsOn and MayClose have it
  pub rests : (before : Log) (i : ℕ) (due : Decision) (p : Turn) (x y : Moving) (log : Log) (s : State) (seat : Seat) (c : Client) → IsMoment terms most before x.desk.peers shelf p s → I p s → IsNext shelf i due p x.desk.state s seat c → TakesOne i (Decide due) x log y → y.desk.state.is_astray ≡ false
      → RestsOn i due p x.desk.state s seat c
  pub closes : (before : Log) (peers : List Peer) (p : Turn) (s : State) → IsMoment terms most before peers shelf p s → I p s → MayClose s
  -- it holds behind each, and where none is found
  pub taken : (before : Log) (i : ℕ) (due : Decision) (p : Turn) (x y : Moving) (log : Log) (s : State) (seat : Seat) (c : Client) → IsMoment terms most before x.desk.peers shelf p s → I p s → IsNext shelf i due p x.desk.state s seat c → TakesOne i (Decide due) x log y → y.desk.state.is_astray ≡ false
      → IsMoment terms most (before ++ log) y.desk.peers shelf y.desk.state (behind_taken seat.client.id due s) → I y.desk.state (behind_taken seat.client.id due s)
  pub cut : (before : Log) (i : ℕ) (cause : Cause) (p : Turn) (x y : Moving) (log : Log) (s : State) (seat : Seat) (c : Client) → IsMoment terms most before x.desk.peers shelf p s → I p s → IsCutNext shelf i cause p x.desk.state s seat c → TakesOne i (CutOff cause) x log y → y.desk.state.is_astray ≡ false
      → IsMoment terms most (before ++ log) y.desk.peers shelf y.desk.state (behind_cut seat.client.id s) → I y.desk.state (behind_cut seat.client.id s)
  pub none : (before : Log) (peers : List Peer) (p q : Turn) (s : State) → IsMoment terms most before peers shelf p s → I p s → FirstDueInMemory shelf p.awake.items p q None → q.is_astray ≡ false → IsMoment terms most before peers shelf q s → I q s

-- ---- they lead on, and the turn stands behind the last as before the first

pub record AllDecided (shelf : KeptMap) (I : Turn → State → Type 0) (y : Moving) (log : Log) (s : State) : Type 0 where
  pub then : State
  pub leads : Leads log s then
  pub stands : StandsBehind y.desk.peers shelf y.desk.state then
  pub holds : I y.desk.state then

-- of what passes a test
abbrev pub Passes : (Turn → State → Bool) → Turn → State → Type 0
Passes test p s = test p s ≡ true

-- this life did not go astray: the turn's end says so, and what went astray stays so (`Astray`). So memory was refused for no row, and no more
-- is due than is taken
abbrev pub AllLead : Type 0
AllLead = (terms : List Term) (most : ℕ) (before : Log) (shelf : KeptMap) (test : Turn → State → Bool) (more : ℕ) (x y : Moving) (log : Log) (any : Bool) (s : State) → Supplies terms most shelf (Passes test) → Obeys terms s before → IsBrief most (before ++ log) → StandsBehind x.desk.peers shelf x.desk.state s → Passes test x.desk.state s
    → Decides more shelf x log y any → y.desk.state.is_astray ≡ false → AllDecided shelf (Passes test) y log s
