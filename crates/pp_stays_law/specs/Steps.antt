-- What holds of a turn and of the law's state holds behind each step of decisions and rounds, where the turn stands before and behind it, the
-- log obeys the law, and this life did not go astray (ours): in the form in which `pp_rounds_law` asks for it.
use Rattle.std.specs.Prelude.{◌≡◌, ℕ, true, false, List, ◌++◌, None}
use Rattle.pp_turns_law.specs.Sides.{MayClose}
use Rattle.pp_deciding_law.specs.Cuts.{IsCutNext, behind_cut}
use Rattle.pp_deciding_law.specs.Stands.{StandsBehind}
use Rattle.pp_deciding_law.specs.Takes.{IsNext, behind_taken}
use Rattle.pp_desk.specs.Origins.{without_unseen}
use Rattle.pp_desk.specs.declared.desk.Desk.{Desk}
use Rattle.pp_law.specs.Due.{first_due}
use Rattle.pp_law.specs.Phases.{has_closings, is_done, next}
use Rattle.pp_law.specs.State.{State, Client, Term, Connecting, Deciding}
use Rattle.pp_obeys.specs.Moves.{Leads}
use Rattle.pp_obeys.specs.Obeys.{Obeys}
use Rattle.pp_peers.specs.declared.peers.Peer.{Peer}
use Rattle.pp_places.specs.Around.{around}
use Rattle.pp_proxy.specs.Closing.{ClosesOver}
use Rattle.pp_proxy.specs.Deciding.{TakesOne}
use Rattle.pp_proxy.specs.Moving.{Moving, with_desk}
use Rattle.pp_proxy.specs.Rounds.{Becomes, Fills, GivesUp, Places}
use Rattle.pp_rounds_law.specs.Stands.{StandsAmid}
use Rattle.pp_rounds_law.specs.Supplies.{followed}
use Rattle.pp_seats.specs.declared.due.Due.TheVariants.{Decide, CutOff}
use Rattle.pp_seats.specs.declared.seat.Seat.{Seat}
use Rattle.pp_state.specs.declared.state.State.{State as Turn}
use Rattle.pp_store.specs.Kept.{KeptMap}
use Rattle.pp_turns_law.specs.Firsts.{FirstDueInMemory}
use Rattle.pp_world.specs.Log.{Log}
use Rattle.pp_world.specs.declared.note.Cause.{Cause}
use Rattle.pp_world.specs.declared.note.Decision.{Decision}
use Rattle.pp_stays_law.specs.Dials.{MayBeRefusedAlong}
use Rattle.pp_stays_law.specs.Turns.{AreCounted}

-- ---- decisions

-- between two of them, beside a log that obeys the law
pub record IsBetween (terms : List Term) (before : Log) (peers : List Peer) (shelf : KeptMap) (p : Turn) (s : State) : Type 0 where
  pub obeys : Obeys terms s before
  pub stands : StandsBehind peers shelf p s

pub record StaysInDecisions (terms : List Term) (shelf : KeptMap) (I : Turn → State → Type 0) : Type 0 where
  pub taken : (before : Log) (i : ℕ) (due : Decision) (p : Turn) (x y : Moving) (log : Log) (s : State) (seat : Seat) (c : Client) → IsBetween terms before x.desk.peers shelf p s → I p s → IsNext shelf i due p x.desk.state s seat c → TakesOne i (Decide due) x log y → y.desk.state.is_astray ≡ false
      → IsBetween terms (before ++ log) y.desk.peers shelf y.desk.state (behind_taken seat.client.id due s) → I y.desk.state (behind_taken seat.client.id due s)
  pub cut : (before : Log) (i : ℕ) (cause : Cause) (p : Turn) (x y : Moving) (log : Log) (s : State) (seat : Seat) (c : Client) → IsBetween terms before x.desk.peers shelf p s → I p s → IsCutNext shelf i cause p x.desk.state s seat c → TakesOne i (CutOff cause) x log y → y.desk.state.is_astray ≡ false
      → IsBetween terms (before ++ log) y.desk.peers shelf y.desk.state (behind_cut seat.client.id s) → I y.desk.state (behind_cut seat.client.id s)
  pub none : (before : Log) (peers : List Peer) (p q : Turn) (s : State) → IsBetween terms before peers shelf p s → I p s → FirstDueInMemory shelf p.awake.items p q None → q.is_astray ≡ false → IsBetween terms before peers shelf q s → I q s

-- ---- rounds

pub record StaysInRounds (terms : List Term) (shelf : KeptMap) (I : Turn → State → Type 0) : Type 0 where
  -- without a word; where closings may come, and as much is counted as came, exchanges that wait stand in the order of their beginnings still
  pub silent : (before : Log) (number : ℕ → ℕ) (x : Moving) (seen given asked : Desk) (s : State) → Obeys terms s before → StandsAmid number shelf x s → MayClose s → AreCounted x.desk.state s → I x.desk.state s → s.phase ≡ Deciding → first_due s ≡ None
      → Becomes without_unseen x.desk seen → GivesUp seen given → Fills given asked → Obeys terms (followed s) before → StandsAmid number shelf (with_desk asked x) (followed s) → asked.state.is_astray ≡ false → I asked.state (followed s)
  pub closed : (before : Log) (number : ℕ → ℕ) (x y : Moving) (log : Log) (s t : State) → Obeys terms s before → StandsAmid number shelf x s → I x.desk.state s → s.phase ≡ Connecting → ClosesOver x log y → Leads log s t
      → Obeys terms t (before ++ log) → StandsAmid number shelf y t → y.desk.state.is_astray ≡ false → I y.desk.state t
  -- each dial of the log may be refused
  pub placed : (before : Log) (number : ℕ → ℕ) (x y : Moving) (log : Log) (s t : State) → Obeys terms s before → StandsAmid number shelf x s → I x.desk.state s → s.phase ≡ Connecting → has_closings s ≡ false
      → MayBeRefusedAlong log number x.desk.state None (around x.desk x.links x.top) s → Places x log y → Leads log s t → is_done t ≡ true
      → Obeys terms (next t) (before ++ log) → StandsAmid number shelf y (next t) → y.desk.state.is_astray ≡ false → I y.desk.state (next t)

-- ---- both

pub record StaysInATurn (terms : List Term) (shelf : KeptMap) (I : Turn → State → Type 0) : Type 0 where
  pub decisions : StaysInDecisions terms shelf I
  pub rounds : StaysInRounds terms shelf I
