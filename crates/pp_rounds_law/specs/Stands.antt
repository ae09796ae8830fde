-- What stands through a round: the turn and its connections beside the law's state (RFC 2616, sections 8.1 and 8.1.2.2; the order is ours).
use Rattle.std.specs.Prelude.{◌≡◌, ◌≤◌, ◌+◌, ℕ, false, length, vec_capacity, None}
use Rattle.std.specs.List.{All}
use Rattle.pp_cache_law.specs.Kept.{AreAsKept}
use Rattle.pp_turns_law.specs.Log.{AreLinked}
use Rattle.pp_deciding_law.specs.Stands.{IsDeciding}
use Rattle.pp_desk.specs.Closings.{peer_numbers}
use Rattle.pp_flow_law.specs.Tables.{none_leaves}
use Rattle.pp_law.specs.Connections.{limits}
use Rattle.pp_law.specs.State.{State}
use Rattle.pp_places_law.specs.Around.{AreAskable}
use Rattle.pp_places_law.specs.Closings.{AreOpen}
use Rattle.pp_proxy.specs.Moving.{Moving}
use Rattle.pp_state.specs.Ends.{numbers_of}
use Rattle.pp_store.specs.Kept.{KeptMap}
use Rattle.pp_turns_law.specs.Firsts.{AreAwake}
use Rattle.pp_turns_law.specs.Rows.{AllAreKept, AreReady}
use Rattle.pp_turns_law.specs.Turns.{ShowsTurn}

-- from step to step, in whatever phase
pub record StandsAmid (number : ℕ → ℕ) (shelf : KeptMap) (x : Moving) (s : State) : Type 0 where
  -- as StandsToDecide of `pp_deciding_law` has it: each step leaves it
  pub turn : ShowsTurn number none_leaves x.desk.peers x.desk.state s
  pub ready : AreReady number x.desk.state.cache s.next_instance x.desk.state.seats.items
  pub kept : AreAsKept shelf
  pub awake : AreAwake x.desk.state
  -- no row left memory for a decision: each decision that is taken leaves it so
  pub none : s.made_room_for ≡ None
  -- before Stop, and from the opening on (Opening.`IsSet` of `pp_desk`)
  pub going : s.is_stopped ≡ false
  pub limits : x.desk.state.limits ≡ limits s
  -- as each exchange begins (`IsAskable` of `pp_places_law`)
  pub waiting : AreAskable x.desk.state.flow.waiting
  pub placed : AreAskable x.desk.state.flow.placed
  -- each connection to an origin is open, and each client's: from one opening, dial and closing to the next
  pub linked : AreLinked (peer_numbers x.desk.peers) x.links
  pub seated : AreOpen (numbers_of x.desk.state.seats.items) x.links
  -- Links.`IsLinked` of `pp_links`; and there are at most 256 clients
  pub given : All (λ link. link.0 ≤ x.top) x.links
  pub few : length x.links ≤ 256 + length x.desk.peers
  -- from one number that is given to the next (Wire.`IsNewNumber` of `pp_world`)
  pub top : s.top ≤ x.top
  -- from the opening on (Opening.`IsSet` of `pp_desk`)
  pub room : 256 ≤ vec_capacity x.desk.state.awake
  -- nobody is turned away: only the event's own client may be, and the first decisions behind the disk cut it
  pub away : x.desk.turned_away ≡ None

-- where decisions were, or come next: with what is kept of each key
pub record StandsInRound (shelf : KeptMap) (x : Moving) (s : State) : Type 0 where
  pub number : ℕ → ℕ
  pub amid : StandsAmid number shelf x s
  pub deciding : IsDeciding s
  pub disk : AllAreKept shelf x.desk.state.cache s
