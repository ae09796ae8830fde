-- What a turn carries from wait to wait, beside what each of its pieces shows of the law's state: what is kept on the disk, what is set for
-- the life, which connections are open, and that each exchange can be asked (RFC 2616, section 8.1; the rest is ours).
use Rattle.std.specs.List.{All}
use Rattle.std.specs.Prelude.{◌≡◌, ◌≤◌, ◌+◌, [], length, vec_capacity, None}
use Rattle.pp_cache_law.specs.Outdated.{AreNoted}
use Rattle.pp_turns_law.specs.Log.{AreLinked}
use Rattle.pp_desk.specs.Closings.{peer_numbers}
use Rattle.pp_desk.specs.declared.desk.Desk.{Desk}
use Rattle.pp_keeps_law.specs.Stands.{DisplacedOnesAreThere, HasOpenNames, IsShort}
use Rattle.pp_law.specs.State.{State}
use Rattle.pp_law.specs.Store.{run_len}
use Rattle.pp_opening_law.specs.Openings.{IsInForce}
use Rattle.pp_places_law.specs.Around.{AreAskable}
use Rattle.pp_places_law.specs.Closings.{AreOpen}
use Rattle.pp_proxy.specs.Moving.{Moving}
use Rattle.pp_shelf_law.specs.AsKept.{EachIsAsKept}
use Rattle.pp_shelf_law.specs.Shelf.{ShowsShelf}
use Rattle.pp_state.specs.Ends.{numbers_of}
use Rattle.pp_state.specs.declared.state.State.{State as Turn}
use Rattle.pp_store.specs.Kept.{KeptMap}

-- ---- the disk, where it is at rest

pub record StandsOnDisk (shelf : KeptMap) (p : Turn) (s : State) : Type 0 where
  -- as each turn ends (Ends.`HasEnded` of `pp_rounds_law`)
  pub idle : s.under_way ≡ None
  pub done : s.agenda.todo ≡ []
  -- Stands.`StandsToKeep` of `pp_keeps_law` has these before a keeping and behind it; from the opening of the folder on (Opening of
  -- `pp_shelf_law`)
  pub shows : ShowsShelf shelf s
  pub noted : AreNoted p.cache.outdated s.displaced s.entries
  pub names : HasOpenNames s
  pub short : All IsShort shelf.rows
  pub lost : p.has_lost_draft ≡ s.has_lost_draft
  -- from step to step: `clear` alone displaces, and what is taken away is not displaced any more
  pub displaced : DisplacedOnesAreThere s
  -- from the opening on (AsKept of `pp_shelf_law`)
  pub kept : EachIsAsKept shelf

-- ---- what is set for the life

pub record StandsAsSet (d : Desk) (s : State) : Type 0 where
  -- from the opening on (Opening.`IsSet` of `pp_desk`, `openings_are_the_laws` of `pp_opening_law`)
  pub force : IsInForce d.state s
  pub few : run_len s ≤ 64
  -- there are at most 256 clients: where all are looked at, one more can be noted (Opening.`HasRoom` of `pp_desk`)
  pub room : 257 ≤ vec_capacity d.state.awake
  pub file : length d.file.items ≡ 286720
  -- from a tick to the next
  pub ticked : d.state.has_ticked ≡ s.has_ticked

-- ---- connections

-- each client's and each origin's is open; no number is above the greatest that was given, of which the law knows
pub record StandsLinked (x : Moving) (s : State) : Type 0 where
  -- from one opening, dial and closing to the next
  pub clients : AreOpen (numbers_of x.desk.state.seats.items) x.links
  pub origins : AreLinked (peer_numbers x.desk.peers) x.links
  -- Links.`IsLinked` of `pp_links`
  pub given : All (λ link. link.0 ≤ x.top) x.links
  -- there are at most 256 clients
  pub few : length x.links ≤ 256 + length x.desk.peers
  -- from one number that is given to the next (Wire.`IsNewNumber` of `pp_world`)
  pub top : s.top ≤ x.top

-- ---- all

pub record IsCarried (shelf : KeptMap) (x : Moving) (s : State) : Type 0 where
  pub disk : StandsOnDisk shelf x.desk.state s
  pub set : StandsAsSet x.desk s
  pub links : StandsLinked x s
  -- as each exchange begins (`IsAskable` of `pp_places_law`)
  pub waiting : AreAskable x.desk.state.flow.waiting
  pub placed : AreAskable x.desk.state.flow.placed
  -- only the event's own client may be turned away, and then this life goes astray
  pub away : x.desk.turned_away ≡ None
