-- What a round rests on beside what stands: whatever holds from one step to the next, and supplies it. All of it is ours.
use Rattle.std.specs.Prelude.{◌≡◌, ◌≤◌, ◌+◌, ◌-◌, ◌^◌, ℕ, true, false, length, List, ◌++◌, Some, None}
use Rattle.std.specs.List.{list_any}
use Rattle.pp_turns_law.specs.Sides.{MayClose}
use Rattle.pp_turns_law.specs.Unread.{IsCountedOn}
use Rattle.pp_turns_law.specs.Decides.{IsAtPlace}
use Rattle.pp_turns_law.specs.Fills.{MayWant}
use Rattle.pp_desk.specs.Origins.{without_unseen}
use Rattle.pp_desk.specs.declared.desk.Desk.{Desk}
use Rattle.pp_law.specs.Closing.{is_over}
use Rattle.pp_law.specs.Connections.{conn}
use Rattle.pp_law.specs.Due.{first_due}
use Rattle.pp_law.specs.Followers.{fill, give_up_asks}
use Rattle.pp_law.specs.Phases.{has_closings, in_phase, is_done, next}
use Rattle.pp_law.specs.State.{State, Client, Conn, Term, Connecting, Deciding}
use Rattle.pp_law.specs.Table.{Next, next_of}
use Rattle.pp_law.specs.Unseen.{drop_unseen}
use Rattle.pp_obeys.specs.Moves.{Leads}
use Rattle.pp_obeys.specs.Obeys.{Obeys}
use Rattle.pp_places.specs.Around.{around}
use Rattle.pp_places_law.specs.Around.{MayPlace, ShowsAround}
use Rattle.pp_proxy.specs.Closing.{ClosesOver}
use Rattle.pp_proxy.specs.Moving.{Moving, with_desk}
use Rattle.pp_proxy.specs.Rounds.{Becomes, Fills, GivesUp, Places}
use Rattle.pp_rounds_law.specs.Coming.{IsBrief}
use Rattle.pp_rounds_law.specs.Decisions.{Supplies}
use Rattle.pp_rounds_law.specs.Dials.{MayGoWithout, OfAffordedDials}
use Rattle.pp_seats.specs.Follows.{next_of as next_in_turn}
use Rattle.pp_seats.specs.declared.seat.Next.{Next as SeatNext}
use Rattle.pp_seats.specs.declared.seat.Seat.{Seat}
use Rattle.pp_state.specs.Ends.{parts}
use Rattle.pp_state.specs.declared.state.State.{State as Turn}
use Rattle.pp_store.specs.Kept.{KeptMap}
use Rattle.pp_turns_law.specs.Needs.{IsWithin}
use Rattle.pp_turns_law.specs.Rows.{AllAreKept}
use Rattle.pp_world.specs.Log.{Log}
use Rattle.pp_rounds_law.specs.Stands.{StandsAmid}

-- ---- behind what nobody sees, and behind what followers ask for

abbrev pub without_useless : State → State
without_useless s = give_up_asks (drop_unseen (in_phase Connecting s))

abbrev pub followed : State → State
followed s = fill (without_useless s)

-- ---- what followers rest on as they ask, beside what stands (`pp_asks_law` has it)

pub record MayAskMore (p : Turn) (s : State) : Type 0 where
  -- what follows a row has a key, and memory was refused for no row
  pub wants : (i : ℕ) (seat : Seat) (c : Client) (x : SeatNext) → IsAtPlace i (parts p) s seat c → c.is_closing ≡ false → next_in_turn seat ≡ Some x → MayWant seat c
  -- its next byte is one of the body, of which what is kept ends with a chunk, or with the body
  pub within : (i : ℕ) (seat : Seat) (c : Client) (n : Next) → IsAtPlace i (parts p) s seat c → c.is_closing ≡ false → next_of s c ≡ Some n → IsWithin s n
  -- no exchange is nobody's and nowhere: those are given up just before
  pub going : list_any is_over s.exchanges ≡ false
  -- no count ends at 2 ^ 64, where the log has fewer than 2 ^ 50 happenings
  pub numbers : s.next_exchange + length p.awake.items ≤ 2 ^ 64 - 1

-- ---- all of it

-- at each step, beside a log that obeys the law, of so many happenings at most, where the turn stands amid a round. Behind a step the log obeys
-- the law, the turn stands so, and this life did not go astray
pub record RoundSupplies (terms : List Term) (most : ℕ) (shelf : KeptMap) (I : Turn → State → Type 0) : Type 0 where
  -- what decisions rest on (Decisions.`Supplies`)
  pub decides : Supplies terms most shelf I
  -- the same as for cuts, where connections are closed
  pub closes : (before : Log) (number : ℕ → ℕ) (x : Moving) (s : State) → Obeys terms s before → IsBrief most before → StandsAmid number shelf x s → I x.desk.state s → MayClose s
  -- as much is counted of what is dropped as came: `deliver` counts it so, and each step leaves it
  pub counted : (before : Log) (number : ℕ → ℕ) (x : Moving) (s : State) (n : ℕ) (k : Conn) → Obeys terms s before → IsBrief most before → StandsAmid number shelf x s → I x.desk.state s → conn s n ≡ Some k → IsCountedOn x.desk.state.flow k
  -- what followers rest on, where asks that bring nothing are given up, and nothing is due
  pub asks : (before : Log) (number : ℕ → ℕ) (x : Moving) (seen given : Desk) (s : State) → Obeys terms s before → IsBrief most before → StandsAmid number shelf x s → I x.desk.state s → s.phase ≡ Deciding → first_due s ≡ None → Becomes without_unseen x.desk seen → GivesUp seen given
      → MayAskMore given.state (without_useless s)
  -- what is kept of each key is the law's: ShowsShelf and AreNoted of `pp_shelf_law`
  pub keeps : (before : Log) (number : ℕ → ℕ) (x : Moving) (s : State) → Obeys terms s before → IsBrief most before → StandsAmid number shelf x s → I x.desk.state s → AllAreKept shelf x.desk.state.cache s
  -- what dials that may be refused rest on (Dials.`MayGoWithout`), wherever places come to, as often as the outside may fail
  pub dials : (before : Log) (number : ℕ → ℕ) (x : Moving) (s : State) → Obeys terms s before → IsBrief most before → StandsAmid number shelf x s → I x.desk.state s → ShowsAround number x.desk.state (around x.desk x.links x.top) s → MayPlace s
      → OfAffordedDials (MayGoWithout x.desk.state) most before number x.desk.state None (around x.desk x.links x.top) s
  -- it holds behind each step
  pub silent : (before : Log) (number : ℕ → ℕ) (x : Moving) (seen given asked : Desk) (s : State) → Obeys terms s before → IsBrief most before → StandsAmid number shelf x s → I x.desk.state s → s.phase ≡ Deciding → first_due s ≡ None → Becomes without_unseen x.desk seen → GivesUp seen given → Fills given asked
      → Obeys terms (followed s) before → StandsAmid number shelf (with_desk asked x) (followed s) → asked.state.is_astray ≡ false → I asked.state (followed s)
  pub closed : (before : Log) (number : ℕ → ℕ) (x y : Moving) (log : Log) (s t : State) → Obeys terms s before → IsBrief most before → StandsAmid number shelf x s → I x.desk.state s → s.phase ≡ Connecting → ClosesOver x log y → Leads log s t
      → Obeys terms t (before ++ log) → IsBrief most (before ++ log) → StandsAmid number shelf y t → y.desk.state.is_astray ≡ false → I y.desk.state t
  pub placed : (before : Log) (number : ℕ → ℕ) (x y : Moving) (log : Log) (s t : State) → Obeys terms s before → IsBrief most before → StandsAmid number shelf x s → I x.desk.state s → s.phase ≡ Connecting → has_closings s ≡ false → Places x log y → Leads log s t → is_done t ≡ true
      → Obeys terms (next t) (before ++ log) → IsBrief most (before ++ log) → StandsAmid number shelf y (next t) → y.desk.state.is_astray ≡ false → I y.desk.state (next t)
